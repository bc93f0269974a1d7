-- Laws of the keys of a line: they stand behind the line ends before it.
use Prim.Native.Nat.{ℕ, suc, ◌+◌, ◌-◌, ◌^◌, ◌<◌, ◌≤◌, min}
use native.Mathlib.Omega.{arith}
use mathlib.Core.Path.{◌≡◌, refl, sym, ap, ◌∙◌}
use mathlib.Core.Logic.{◌⊎◌, inl, inr, ⊎_elim}
use mathlib.Core.Bool.{Bool, true, false}
use mathlib.Core.List.{List, [], ◌∷◌, ◌++◌}
use lib.Dec.{eqb, ltb}
use lib.ListN.{length, take, drop, length-append}
use lib.Seq.{take_all, take-append-le}
use borrow.Author.Tests.{eqb-true, ne_eqb, lt-ltb, le-ltb}
use Rattle.std.specs.Prelude.{Ok, Err}
use Rattle.refusal.specs.declared.Refusal.TheVariants.{BufferTooShort}
use Rattle.runs.specs.Keys.{member, line_end}
use Rattle.runs.specs.Kept.{over}
use Rattle.runs.proofs.Tests.{clash, neither}
use Rattle.book.specs.Reading.{macros_in}
use Rattle.lines.specs.Lines.{trimmed, lines}
use Rattle.lines.proofs.LineLaws.{lines-closed, lines-open, lines_none}
use Rattle.lines.proofs.Trims.{trim-length, trim-front}
use Rattle.extents.specs.Capped.{most}
use Rattle.extents.specs.Extents.{end_count}
use Rattle.extents.proofs.ExtentLaws.{ends-none, ends-cons}
use Rattle.find.specs.declared.finding.FoundLine.{FoundLine}
use Rattle.find.specs.declared.finding.LinePlace.{LinePlace}
use Rattle.find.specs.Answer.{longest, find_of}
use Rattle.find.specs.Promises.{behind_ends, writes, buffer_after, WriteFits, LineOf, LineFits, WritesLine}
use Rattle.find.proofs.FillLaws.{rest_of, rest-is}
use Rattle.find.proofs.LocateLaws.{told-is}
use Rattle.find.proofs.WriteLaws.{behind-zero, behind-both, behind-few, extended-less}

-- a run has no line end, or keys before its first one and keys behind it
abbrev Ended : List ℕ → Type 0
Ended w = (p : List ℕ) × (v : List ℕ) × (member line_end p ≡ false) × (w ≡ p ++ (line_end ∷ v))

first-end : (w : List ℕ) → (member line_end w ≡ false) ⊎ Ended w
first-end [] = inl refl
first-end (c ∷ w) = go (eqb line_end c) refl (first-end w)
  where
    go : (b : Bool) → eqb line_end c ≡ b → (member line_end w ≡ false) ⊎ Ended w → (member line_end (c ∷ w) ≡ false) ⊎ Ended (c ∷ w)
    go true e r = inr ([], w, refl, ap (λ (k : ℕ). k ∷ w) (sym (eqb-true line_end c e)))
    go false e (inl n) = inl (rw (e, n) refl)
    go false e (inr (p, v, n, s)) = inr (c ∷ p, v, rw (e, n) refl, ap (λ (l : List ℕ). c ∷ l) s)

no-ends : (p : List ℕ) → member line_end p ≡ false → end_count p ≡ 0
no-ends [] h = ends-none
no-ends (c ∷ p) h = let both = neither (eqb line_end c) (member line_end p) h in ends-cons c p ∙ rw (both.0, no-ends p both.1) refl

abbrev head_of : List (List ℕ) → List ℕ
head_of [] = []
head_of (l ∷ ls) = l

abbrev tail_of : List (List ℕ) → List (List ℕ)
tail_of [] = []
tail_of (l ∷ ls) = ls

-- the first line stands in front
first-keys : (w l : List ℕ) (after : List (List ℕ)) → lines w ≡ l ∷ after → take (length l) w ≡ l
first-keys w l after e = ⊎_elim (λ n. whole w n e) (λ (p, v, n, s). closed p v n s) (first-end w)
  where
    whole : (w : List ℕ) → member line_end w ≡ false → lines w ≡ l ∷ after → take (length l) w ≡ l
    whole [] n e = let none : ◌≡◌ {A = List (List ℕ)} [] (l ∷ after) = sym lines_none ∙ e in clash (cc)
    whole (c ∷ w) n e = let same : l ≡ c ∷ w = ap head_of (sym e ∙ lines-open c w n) in rw same (take_all (length (c ∷ w)) (c ∷ w) (omega arith))

    closed : (p v : List ℕ) → member line_end p ≡ false → w ≡ p ++ (line_end ∷ v) → take (length l) w ≡ l
    closed p v n s =
        let same : l ≡ trimmed p = ap head_of (sym e ∙ ap lines s ∙ lines-closed p v n) in
        rw (same, s) (take-append-le (length (trimmed p)) p (line_end ∷ v) (rw (trim-length p) (omega arith)) ∙ trim-front p)

past : (n : ℕ) (v : List ℕ) → behind_ends (suc n - 0) (line_end ∷ v) ≡ behind_ends n v
unfolding behind_ends
past n v =
    let all : suc n - 0 ≡ suc n = omega arith in
    let some : eqb (suc n) 0 ≡ false = ne_eqb (suc n) 0 (omega arith) in
    let less : suc n - 1 ≡ n = omega arith in
    rw (all, some, less) refl

-- each line stands behind as many line ends as there are lines before it
nth-keys : (before : List (List ℕ)) (w l : List ℕ) (after : List (List ℕ)) → lines w ≡ before ++ (l ∷ after) → take (length l) (behind_ends (length before) w) ≡ l
nth-keys [] w l after e = rw (behind-zero w) (first-keys w l after e)
nth-keys (b ∷ before) w l after e = ⊎_elim (λ n. absurd (whole w n e)) (λ (p, v, n, s). closed p v n s (λ x. nth-keys before v l after x)) (first-end w)
  where
    two : (ls : List (List ℕ)) → length ls ≤ 1 → ls ≡ b ∷ (before ++ (l ∷ after)) → ⊥
    two ls h x = omega (arith, h, ap length x, length-append before (l ∷ after))

    whole : (w : List ℕ) → member line_end w ≡ false → lines w ≡ b ∷ (before ++ (l ∷ after)) → ⊥
    whole [] n x = two [] (omega arith) (sym lines_none ∙ x)
    whole (c ∷ w) n x = two ((c ∷ w) ∷ []) (omega arith) (sym (lines-open c w n) ∙ x)

    closed : (p v : List ℕ) → member line_end p ≡ false → w ≡ p ++ (line_end ∷ v) → (lines v ≡ before ++ (l ∷ after) → take (length l) (behind_ends (length before) v) ≡ l) → take (length l) (behind_ends (length (b ∷ before)) w) ≡ l
    closed p v n s again =
        let rest : lines v ≡ before ++ (l ∷ after) = sym (ap tail_of (sym e ∙ ap lines s ∙ lines-closed p v n)) in
        let none : end_count p ≡ 0 = no-ends p n in
        let skipped : behind_ends (suc (length before)) w ≡ behind_ends (length before) v =
        ap (behind_ends (suc (length before))) s
        ∙ behind-both (suc (length before)) p (line_end ∷ v)
        ∙ rw (behind-few (suc (length before)) p (omega (arith, none)), none) (past (length before) v) in
        rw skipped (again rest)

-- The line that is written.
module _ {run : List ℕ} {line : FoundLine} {keys : List ℕ} (o : LineOf run line keys) where
  -- what is told of its keys is no more than there are, and all of it if it is small
  told-less : line.length ≤ length keys
  told-less = rw (o.size, ← told-is (length keys)) (omega arith)

  told-all : line.length < longest → line.length ≡ length keys
  told-all h = let told-min : line.length ≡ min (length keys) longest = o.size ∙ sym (told-is (length keys)) in omega (arith, told-min)

  -- its keys are written, with a pen that skips the line ends before it
  line_writes : line.length ≡ length keys → writes (record { ends = line.number - 1; left = line.length; at = 0 }) run ≡ keys
  line_writes e =
      let before : line.number - 1 ≡ length o.before = omega (arith, o.place) in
      rw (e, before) (nth-keys o.before run keys o.after o.split)

  not-over : ltb most line.number ≡ false
  not-over = le-ltb most line.number o.low

pub line-short : (run : List ℕ) (line : FoundLine) (buffer : List ℕ) → length buffer < line.length → WritesLine run line buffer buffer (Err BufferTooShort)
unfolding find_of
line-short run line buffer h = record { writes = λ keys o work. rw (not-over o, lt-ltb (length buffer) (length keys) (omega (arith, h, told-less o))) refl }

pub line-written : (run : List ℕ) (line : FoundLine) (buffer : List ℕ) {after : List ℕ} → length buffer < 2 ^ 63 → line.length ≤ length buffer → after ≡ buffer_after (record { ends = line.number - 1; left = line.length; at = 0 }) run buffer
    → WritesLine run line buffer after (Ok line)
unfolding find_of buffer_after
line-written run line buffer {after} small h e =
    record {
      writes = λ keys o work.
          let all : line.length ≡ length keys = told-all o (omega arith) in
          let same : writes (record { ends = line.number - 1; left = line.length; at = 0 }) run ≡ keys = line_writes o all in
          let placed-over : after ≡ over keys buffer = e ∙ rw same (ap (λ (n : ℕ). keys ++ drop n buffer) (let none : 0 + length keys ≡ length keys = omega arith in none)) in
          rw (not-over o, le-ltb (length buffer) (length keys) (omega (arith, h, all)), placed-over, all) refl;
    }

module _ {b offsets : List ℕ} {m : ℕ} {place : LinePlace} {work : List ℕ} (g : LineFits b offsets m place work) where
  pub line-fits : {buffer : List ℕ} {n : ℕ} → place.line.length ≤ length buffer → WriteFits b offsets m (rest_of place.base work) (record { ends = n; left = place.line.length; at = 0 }) buffer
  line-fits {buffer} {n} h =
      record {
        macro = record { table = g.table; inside = g.inside; below = rw (rest-is place.base work) (extended-less (macros_in b) (suc m) m (drop place.base work) (omega arith) g.extents) };
        room = omega (arith, h);
      }
