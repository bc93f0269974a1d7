-- Laws of the lines of a run, and of the k-th matching one.
use Prim.Native.Nat.{ℕ, suc, ◌+◌, ◌-◌, ◌<◌, ◌≤◌}
use native.Mathlib.Omega.{arith}
use mathlib.Core.Path.{◌≡◌, refl, sym, ap, ◌∙◌}
use mathlib.Core.Bool.{Bool, true, false, cond}
use mathlib.Core.List.{List, [], ◌∷◌, ◌++◌, append-nil}
use lib.Dec.{eqb}
use lib.ListN.{length}
use borrow.Author.Tests.{eq-eqb, ne_eqb}
use Rattle.runs.specs.Keys.{line_end}
use Rattle.pattern.specs.Meaning.{Query, matches}
use Rattle.lines.specs.Parts.{first_part, later_parts, last_part, parts_before}
use Rattle.lines.specs.Lines.{is_open, trimmed, lines_from, lines, count_in, closed_matches, matching}
use Rattle.lines.proofs.LineLaws.{lines-by, count_none, count-cons, matching-is}
use Rattle.lines.proofs.PartLaws.{first_then, later_then, first-append, later-append, first-cons, later-cons, last_one, last_more, parts_none, parts_more, count_before, count_then, before-open, before-closed, end-part, end-first, key-part, before-none}
use Rattle.spans.proofs.SpanLaws.{closed-by}
use Rattle.extents.specs.Extents.{end_count, open_part}
use Rattle.extents.proofs.ExtentLaws.{later-length, open_is}
use Rattle.find.specs.Lines.{missing, found, kth_in, kth_line}
use Rattle.find.specs.Promises.{closed_by}

-- The k-th of some lines that have X.
module _ (X : List ℕ → Bool) where
  -- it is the one behind k - 1 others
  pub kth-at : (k n : ℕ) (before : List (List ℕ)) (l : List ℕ) (after : List (List ℕ)) → count_in X before + 1 ≡ k → X l ≡ true → kth_in X k n (before ++ (l ∷ after)) ≡ found (n + length before) l
  unfolding kth_in
  kth-at k n [] l after e x =
      let one : eqb k 1 ≡ true = eq-eqb k 1 (sym e ∙ ap (λ (c : ℕ). c + 1) (count_none X)) in
      let same : n ≡ n + 0 = omega arith in
      rw (x, one) (ap (λ (m : ℕ). found m l) same)
  kth-at k n (b ∷ before) l after e x =
      let sum : cond (X b) 1 0 + count_in X before + 1 ≡ k = ap (λ (c : ℕ). c + 1) (sym (count-cons X b before)) ∙ e in
      let further : suc n + length before ≡ n + suc (length before) = omega arith in
      go (X b) sum (λ j f. kth-at j (suc n) before l after f x ∙ ap (λ (m : ℕ). found m l) further)
    where
      go : (t : Bool) → cond t 1 0 + count_in X before + 1 ≡ k → ((j : ℕ) → count_in X before + 1 ≡ j → kth_in X j (suc n) (before ++ (l ∷ after)) ≡ found (n + suc (length before)) l)
          → cond t (cond (eqb k 1) (found n b) (kth_in X (k - 1) (suc n) (before ++ (l ∷ after)))) (kth_in X k (suc n) (before ++ (l ∷ after))) ≡ found (n + suc (length before)) l
      go true f rest = let more : eqb k 1 ≡ false = ne_eqb k 1 (omega (arith, f)) in rw more (rest (k - 1) (omega (arith, f)))
      go false f rest = rest k (omega (arith, f))

  -- there is none if fewer have X
  pub kth-missing : (k n : ℕ) (ls : List (List ℕ)) → count_in X ls < k → kth_in X k n ls ≡ missing
  unfolding kth_in
  kth-missing k n [] h = refl
  kth-missing k n (l ∷ ls) h =
      let few : cond (X l) 1 0 + count_in X ls < k = rw (← count-cons X l ls) h in
      go (X l) few (λ j f. kth-missing j (suc n) ls f)
    where
      go : (t : Bool) → cond t 1 0 + count_in X ls < k → ((j : ℕ) → count_in X ls < j → kth_in X j (suc n) ls ≡ missing) → cond t (cond (eqb k 1) (found n l) (kth_in X (k - 1) (suc n) ls)) (kth_in X k (suc n) ls) ≡ missing
      go true f rest = let more : eqb k 1 ≡ false = ne_eqb k 1 (omega (arith, f)) in rw more (rest (k - 1) (omega (arith, f)))
      go false f rest = rest k (omega (arith, f))

  -- and there is no 0-th
  pub kth-zero : (n : ℕ) (ls : List (List ℕ)) → kth_in X 0 n ls ≡ missing
  unfolding kth_in
  kth-zero n [] = refl
  kth-zero n (l ∷ ls) = go (X l) (kth-zero (suc n) ls)
    where
      go : (t : Bool) → kth_in X 0 (suc n) ls ≡ missing → cond t (kth_in X 0 (suc n) ls) (kth_in X 0 (suc n) ls) ≡ missing
      go true e = e
      go false e = e

-- how many of two lists of lines have X
pub count-append : (X : List ℕ → Bool) (ls ms : List (List ℕ)) → count_in X (ls ++ ms) ≡ count_in X ls + count_in X ms
count-append X [] ms = rw (count_none X) (omega arith)
count-append X (l ∷ ls) ms = count-cons X l (ls ++ ms) ∙ ap (λ (n : ℕ). cond (X l) 1 0 + n) (count-append X ls ms) ∙ (let e : cond (X l) 1 0 + (count_in X ls + count_in X ms) ≡ cond (X l) 1 0 + count_in X ls + count_in X ms = omega arith in e) ∙ ap (λ (n : ℕ). n + count_in X ms) (sym (count-cons X l ls))

-- Lines that an LF closes.

-- each of some parts less a final CR
unfoldable pub trims : List (List ℕ) → List (List ℕ)
trims [] = []
trims (l ∷ ls) = trimmed l ∷ trims ls

-- the lines that the LFs of w close
abbrev pub closed_of : List ℕ → List (List ℕ)
closed_of w = trims (parts_before (first_part w) (later_parts w))

trims-count : (t : Query) (ls : List (List ℕ)) → count_in (matches t) (trims ls) ≡ count_in (closed_matches t) ls
unfolding trims
trims-count t [] = count_none (matches t) ∙ sym (count_none (closed_matches t))
trims-count t (l ∷ ls) = count-cons (matches t) (trimmed l) (trims ls) ∙ ap (λ (n : ℕ). cond (matches t (trimmed l)) 1 0 + n) (trims-count t ls) ∙ sym (count-cons (closed_matches t) l ls)

parts-length : (l : List ℕ) (ls : List (List ℕ)) → length (trims (parts_before l ls)) ≡ length ls
unfolding trims
parts-length l [] = ap (λ (p : List (List ℕ)). length (trims p)) (parts_none l)
parts-length l (m ∷ ms) = ap (λ (p : List (List ℕ)). length (trims p)) (parts_more l m ms) ∙ ap suc (parts-length m ms)

-- there are as many as LFs
pub closed-length : (w : List ℕ) → length (closed_of w) ≡ end_count w
closed-length w = parts-length (first_part w) (later_parts w) ∙ later-length w

numbered : (w : List ℕ) → 1 + length (closed_of w) ≡ suc (end_count w)
numbered w = omega (arith, closed-length w)

-- how many of them match
closed_parts : (t : Query) (w : List ℕ) → closed_by t w ≡ count_before (closed_matches t) (first_part w) (later_parts w)
closed_parts t w = closed-by t (line_end ∷ w) ∙ rw (later-cons line_end w) refl

pub closed-count : (t : Query) (w : List ℕ) → count_in (matches t) (closed_of w) ≡ closed_by t w
closed-count t w = trims-count t (parts_before (first_part w) (later_parts w)) ∙ sym (closed_parts t w)

-- with more keys behind them
closed-then : (t : Query) (w v : List ℕ) → closed_by t (w ++ v) ≡ count_then (closed_matches t) (first_part w) (later_parts w) v
closed-then t w v = closed_parts t (w ++ v) ∙ rw (first-append w v, later-append w v) refl

-- none yet
pub closed-start : (t : Query) → closed_by t [] ≡ 0
closed-start t = closed-by t (line_end ∷ []) ∙ rw end-part (before-none (closed_matches t) [])

-- another key closes none
pub closed-key : (t : Query) (w : List ℕ) (c : ℕ) → eqb line_end c ≡ false → closed_by t (w ++ (c ∷ [])) ≡ closed_by t w
closed-key t w c e = closed-then t w (c ∷ []) ∙ before-open (first_part w) (later_parts w) (c ∷ []) (closed_matches t) (key-part c e) ∙ sym (closed_parts t w)

-- an LF closes the keys behind the last one
pub closed-end : (t : Query) (w : List ℕ) → closed_by t (w ++ (line_end ∷ [])) ≡ closed_by t w + cond (matches t (trimmed (open_part w))) 1 0
closed-end t w =
    closed-then t w (line_end ∷ [])
    ∙ before-closed (first_part w) (later_parts w) (line_end ∷ []) (closed_matches t) end-part
    ∙ rw (before-none (closed_matches t) [], end-first, append-nil (last_part (first_part w) (later_parts w)), ← open_is w, ← closed_parts t w) (omega arith)

-- The lines of a run.

split_from : (v : List ℕ) (l : List ℕ) (ls : List (List ℕ)) → lines_from (first_then l ls (line_end ∷ v)) (later_then ls (line_end ∷ v)) ≡ trims (parts_before l ls) ++ (trimmed (last_part l ls) ∷ lines v)
unfolding trims
split_from v l [] =
    rw (first-cons line_end v, later-cons line_end v, append-nil l, parts_none l, last_one l) (ap (λ (ks : List (List ℕ)). trimmed l ∷ ks) (sym (lines-by v)))
split_from v l (m ∷ ms) = rw (parts_more l m ms, last_more l m ms) (ap (λ (ks : List (List ℕ)). trimmed l ∷ ks) (split_from v m ms))

-- behind the lines that are closed before, the one that an LF closes
pub lines_split : (w v : List ℕ) → lines (w ++ (line_end ∷ v)) ≡ closed_of w ++ (trimmed (open_part w) ∷ lines v)
lines_split w v = lines-by (w ++ (line_end ∷ v)) ∙ rw (first-append w (line_end ∷ v), later-append w (line_end ∷ v), open_is w) (split_from v (first_part w) (later_parts w))

last-from : (l : List ℕ) (ls : List (List ℕ)) → lines_from l ls ≡ trims (parts_before l ls) ++ cond (is_open (last_part l ls)) (last_part l ls ∷ []) []
unfolding trims
last-from l [] = rw (parts_none l, last_one l) refl
last-from l (m ∷ ms) = rw (parts_more l m ms, last_more l m ms) (ap (λ (ks : List (List ℕ)). trimmed l ∷ ks) (last-from m ms))

-- and the last one, if it has a key
pub lines-last : (w : List ℕ) → lines w ≡ closed_of w ++ cond (is_open (open_part w)) (open_part w ∷ []) []
lines-last w = lines-by w ∙ last-from (first_part w) (later_parts w) ∙ rw (open_is w) refl

-- The k-th matching line.
module _ (t : Query) (k : ℕ) where
  pub kth-is : (w : List ℕ) → kth_line t k w ≡ kth_in (matches t) k 1 (lines w)
  unfolding kth_line
  kth-is w = refl

  -- the one that an LF closes, where k lines are closed then and not before
  pub kth-closed : (w v : List ℕ) → closed_by t w < k → k ≤ closed_by t (w ++ (line_end ∷ [])) → kth_line t k (w ++ (line_end ∷ v)) ≡ found (suc (end_count w)) (trimmed (open_part w))
  kth-closed w v h l = go (matches t (trimmed (open_part w))) refl (rw (closed-end t w) at l)
    where
      go : (b : Bool) → matches t (trimmed (open_part w)) ≡ b → k ≤ closed_by t w + cond b 1 0 → kth_line t k (w ++ (line_end ∷ v)) ≡ found (suc (end_count w)) (trimmed (open_part w))
      go false m e = absurd (omega (arith, h, e))
      go true m e =
          let here : count_in (matches t) (closed_of w) + 1 ≡ k = rw (closed-count t w) (omega (arith, h, e)) in
          kth-is (w ++ (line_end ∷ v))
          ∙ ap (kth_in (matches t) k 1) (lines_split w v)
          ∙ kth-at (matches t) k 1 (closed_of w) (trimmed (open_part w)) (lines v) here m
          ∙ ap (λ (n : ℕ). found n (trimmed (open_part w))) (numbered w)

  -- the last one, which no LF closes
  pub kth-last : (w : List ℕ) → closed_by t w < k → k ≤ matching t w → kth_line t k w ≡ found (suc (end_count w)) (open_part w)
  kth-last w h l = go (is_open (open_part w)) refl
    where
      counted : matching t w ≡ closed_by t w + count_in (matches t) (cond (is_open (open_part w)) (open_part w ∷ []) [])
      counted = matching-is t w ∙ ap (count_in (matches t)) (lines-last w) ∙ count-append (matches t) (closed_of w) (cond (is_open (open_part w)) (open_part w ∷ []) []) ∙ rw (closed-count t w) refl

      go : (b : Bool) → is_open (open_part w) ≡ b → kth_line t k w ≡ found (suc (end_count w)) (open_part w)
      go false e = absurd (none (rw e at counted))
        where
          none : matching t w ≡ closed_by t w + count_in (matches t) [] → ⊥
          none f = omega (arith, h, l, f, count_none (matches t))
      go true e = match-it (matches t (open_part w)) refl (rw e at counted)
        where
          match-it : (b : Bool) → matches t (open_part w) ≡ b → matching t w ≡ closed_by t w + count_in (matches t) (open_part w ∷ []) → kth_line t k w ≡ found (suc (end_count w)) (open_part w)
          match-it b m f = by-it b m (f ∙ ap (λ (n : ℕ). closed_by t w + n) (count-cons (matches t) (open_part w) [] ∙ rw (m, count_none (matches t)) refl))
            where
              by-it : (b : Bool) → matches t (open_part w) ≡ b → matching t w ≡ closed_by t w + (cond b 1 0 + 0) → kth_line t k w ≡ found (suc (end_count w)) (open_part w)
              by-it false m f = absurd (omega (arith, h, l, f))
              by-it true m f =
                  let here : count_in (matches t) (closed_of w) + 1 ≡ k = rw (closed-count t w) (omega (arith, h, l, f)) in
                  kth-is w
                  ∙ ap (kth_in (matches t) k 1) (lines-last w ∙ rw e refl)
                  ∙ kth-at (matches t) k 1 (closed_of w) (open_part w) [] here m
                  ∙ ap (λ (n : ℕ). found n (open_part w)) (numbered w)
