-- Laws of passes that lie before the line that is sought.
use Prim.Native.Nat.{ℕ, suc, ◌+◌, ◌-◌, ◌*◌, ◌/◌, ◌<◌, ◌≤◌}
use native.Mathlib.Omega.{arith}
use mir.Val.{Fits}
use mir.Syntax.{w64}
use mathlib.Core.Path.{◌≡◌, refl, sym, ap, ◌∙◌}
use mathlib.Core.Bool.{Bool, true, false, cond}
use mathlib.Core.List.{List, ◌∷◌, ◌++◌, append_assoc, append-nil}
use lib.Dec.{leb, ltb}
use borrow.Author.Tests.{leb-true, leb-false, le-leb, ltb-true, ltb-false}
use Rattle.runs.specs.Keys.{is_run, line_end}
use Rattle.runs.specs.Kept.{times}
use Rattle.runs.proofs.Tests.{either}
use Rattle.runs.proofs.KeyLaws.{run-cons, run-append}
use Rattle.runs.proofs.KeptLaws.{times_none, times-add, times-run}
use Rattle.pattern.specs.Meaning.{Query}
use Rattle.pattern.specs.Form.{atom_count}
use Rattle.spans.specs.Spans.{closed_lines}
use Rattle.reports.specs.declared.span_count.SpanCount.{SpanCount}
use Rattle.reports.specs.Totals.{most, value_of}
use Rattle.reports.specs.Reports.{span_count, joined_counts}
use Rattle.reports.proofs.TotalLaws.{few-lines, many-lines}
use Rattle.reports.proofs.ReportLaws.{join-counts, count-closed}
use Rattle.find.specs.declared.passes.Skipped.{Skipped}
use Rattle.find.specs.Promises.{closed_by, with_part, SkippedTo, Skips}

-- whether k lines are closed, of a run
pub closed-test : (t : Query) (w : List ℕ) (k : ℕ) → k ≤ most → leb k (value_of (span_count t w).closed) ≡ leb k (closed_lines t w)
closed-test t w k h =
    rw (count-closed t w)
    (either most (closed_lines t w)
    (λ l. rw (many-lines (closed_lines t w) l) (le-leb k (suc most) (omega arith) ∙ sym (le-leb k (closed_lines t w) (omega arith))))
    (λ l. rw (few-lines (closed_lines t w) l) refl))

-- `with_part`.
module _ (done : Skipped) (part : SpanCount) (size bound k : ℕ) where
  -- no more passes than there are
  within : done.passes ≤ bound → (with_part done part size bound k).passes ≤ bound
  unfolding with_part
  within h = go (ltb (bound - done.passes) size) refl (leb k (value_of (joined_counts done.before part).closed))
    where
      go : (b : Bool) → ltb (bound - done.passes) size ≡ b → (c : Bool) → (cond b done (cond c done (record { before = joined_counts done.before part; passes = done.passes + size }))).passes ≤ bound
      go true e c = h
      go false e true = h
      go false e false = omega (arith, h, ltb-false (bound - done.passes) size e)

-- Runs with a line end in front.
module _ (w v : List ℕ) where
  behind : (m n : ℕ) → (line_end ∷ (w ++ times m v)) ++ times n v ≡ line_end ∷ (w ++ times (m + n) v)
  behind m n = ap (λ (l : List ℕ). line_end ∷ l) (append_assoc w (times m v) (times n v) ∙ ap (λ (l : List ℕ). w ++ l) (sym (times-add m n v)))

  front-run : is_run w ≡ true → is_run v ≡ true → (n : ℕ) → is_run (line_end ∷ (w ++ times n v)) ≡ true
  front-run g h n = run-cons line_end (w ++ times n v) refl (run-append w (times n v) g (times-run n v h))

module _ (t : Query) (few : atom_count t.tree ≤ 29) (k : ℕ) (fits : k ≤ most) (w v : List ℕ) (g : is_run w ≡ true) (h : is_run v ≡ true) where
  -- no pass yet, where a larger part does not fit
  none-skipped : {a : SpanCount} {size bound : ℕ} → a ≡ span_count t (line_end ∷ w) → closed_by t w < k → bound / 2 < size → SkippedTo t k w v (2 * size) bound (record { before = a; passes = 0 })
  none-skipped {a} {size} {bound} e f l =
      let same : w ++ times 0 v ≡ w = ap (λ (x : List ℕ). w ++ x) (times_none v) ∙ append-nil w in
      record {
        within = omega arith;
        kept = rw same e;
        few = rw same f;
        far = λ x. absurd (go x);
      }
    where
      go : 0 + 2 * size ≤ bound → ⊥
      go x = omega (arith, x, l)

  -- one part more
  part-skipped : {done r : Skipped} {part : SpanCount} {size bound : ℕ} → part ≡ span_count t (times size v) → SkippedTo t k w v (2 * size) bound done → r ≡ with_part done part size bound k → SkippedTo t k w v size bound r
  unfolding with_part
  part-skipped {done} {r} {part} {size} {bound} p d e = rw e (go (ltb (bound - done.passes) size) refl (leb k (value_of (joined_counts done.before part).closed)) refl)
    where
      n : ℕ
      n = done.passes

      joined_is : joined_counts done.before part ≡ span_count t (line_end ∷ (w ++ times (n + size) v))
      joined_is = rw (d.kept, p) (join-counts t few (line_end ∷ (w ++ times n v)) (times size v) (front-run w v g h n) (times-run size v h) ∙ ap (span_count t) (behind w v n size))

      test-is : leb k (value_of (joined_counts done.before part).closed) ≡ leb k (closed_by t (w ++ times (n + size) v))
      test-is = ap (λ (x : SpanCount). leb k (value_of x.closed)) joined_is ∙ closed-test t (line_end ∷ (w ++ times (n + size) v)) k fits

      kept-done : (n + size ≤ bound → k ≤ closed_by t (w ++ times (n + size) v)) → SkippedTo t k w v size bound done
      kept-done f = record { within = d.within; kept = d.kept; few = d.few; far = f }

      go : (b : Bool) → ltb (bound - n) size ≡ b → (c : Bool) → leb k (value_of (joined_counts done.before part).closed) ≡ c → SkippedTo t k w v size bound (cond b done (cond c done (record { before = joined_counts done.before part; passes = n + size })))
      go true x c y = kept-done (λ z. absurd (no_room z (ltb-true (bound - n) size x)))
        where
          no_room : n + size ≤ bound → bound - n < size → ⊥
          no_room z l = omega (arith, z, l)
      go false x true y = kept-done (λ z. leb-true k (closed_by t (w ++ times (n + size) v)) (sym test-is ∙ y))
      go false x false y =
          record {
            within = omega (arith, d.within, ltb-false (bound - n) size x);
            kept = joined_is;
            few = leb-false k (closed_by t (w ++ times (n + size) v)) (sym test-is ∙ y);
            far = λ z. let both : n + size + size ≡ n + 2 * size = omega arith in rw both (d.far (rw both at z));
          }

-- What `skip` has by a larger part, or none where that is too large.
pub record Larger (a part : SpanCount) (size bound k : ℕ) (r : Skipped) : Type 0 where
  pub within : r.passes ≤ bound
  pub skips : (t : Query) → atom_count t.tree ≤ 29 → (w v : List ℕ) → is_run w ≡ true → is_run v ≡ true → a ≡ span_count t (line_end ∷ w) → part ≡ span_count t (times size v) → closed_by t w < k
      → SkippedTo t k w v (2 * size) bound r

module _ {a part : SpanCount} {size bound k : ℕ} (fits : Fits w64 k) where
  pub larger-none : bound / 2 < size → Larger a part size bound k (record { before = a; passes = 0 })
  larger-none l = record { within = omega arith; skips = λ t few w v g h x y c. none-skipped t few k (omega arith) w v g h x c l }

  pub larger-skip : {twice : SpanCount} {r : Skipped} → twice ≡ joined_counts part part → Skips a twice (2 * size) bound k r → Larger a part size bound k r
  larger-skip {twice} {r} j s =
      record {
        within = s.within;
        skips = λ t few w v g h x y c.
            let two : twice ≡ span_count t (times (2 * size) v) = j ∙ rw y (join-counts t few (times size v) (times size v) (times-run size v h) (times-run size v h)) ∙ ap (span_count t) (sym (times-add size size v) ∙ ap (λ (n : ℕ). times n v) (let d : size + size ≡ 2 * size = omega arith in d)) in
            s.skips t few w v g h x two c;
      }

  -- then one part more
  pub skip-part : {larger r : Skipped} → Larger a part size bound k larger → r ≡ with_part larger part size bound k → Skips a part size bound k r
  skip-part {larger} {r} s e =
      record {
        within = rw e (within larger part size bound k s.within);
        skips = λ t few w v g h x y c. part-skipped t few k (omega arith) w v g h y (s.skips t few w v g h x y c) e;
      }
