-- The ways out of `reach_list`: one law for each, and what the walk needs.
use Prim.Native.Nat.{ℕ, suc, ◌+◌, ◌*◌, ◌<◌, ◌≤◌}
use native.Mathlib.Omega.{arith}
use mathlib.Core.Path.{◌≡◌, refl, sym, ap, ◌∙◌}
use mathlib.Core.Logic.{◌⊎◌, inl, inr}
use mathlib.Core.Bool.{Bool, true, false, cond}
use mathlib.Core.List.{List, []}
use lib.Dec.{ltb}
use lib.ListN.{length}
use borrow.Author.Tests.{le-ltb, ltb-true, ltb-false}
use Rattle.runs.proofs.Tests.{by-test}
use Rattle.refusal.specs.declared.Refusal.{Refusal}
use Rattle.refusal.specs.declared.Refusal.TheVariants.{NoSuchMacro, InsufficientSpace}
use Rattle.refusal.specs.Figures.{Figures, answered, refused_for}
use Rattle.runs.specs.Kept.{over}
use Rattle.book.specs.declared.layout.Book.{Book}
use Rattle.std.specs.Prelude.{Ok, Err}
use Rattle.book.specs.Format.{Macro}
use Rattle.book.specs.Reading.{Reading, got, refused, read_book, macros_in}
use Rattle.book.specs.Answer.{check_result, offsets_in, opened_figures, require_macro}
use Rattle.book.specs.Steps.{Settled, settled, ◌>>=◌, answer_by, space_step, settled_by}
use Rattle.book.proofs.LayoutLaws.{opened-refused, opened-sound, opened-count, macros-few}
use Rattle.book.proofs.StepLaws.{space-answer, space-inside, space-room}
use Rattle.book.proofs.Requiring.{require-refused, require-out, require-in, require-alike}
use Rattle.book.proofs.Refusals.{BookNumber, book-refusals}
use Rattle.reach.specs.Entries.{reach_list}
use Rattle.reach.specs.Answer.{ReachAnswer, require_entries}
use Rattle.reach.specs.Promises.{MacroOf}

-- What is read of macro m and a list of so many entries, by the steps that the code takes.
module _ (b : List ℕ) (entries m : ℕ) where
  entries-refused : {r : Refusal} → require_macro m b ≡ refused r → require_entries m entries b ≡ refused r
  unfolding require_entries
  entries-refused e = rw e refl

  entries-tested : {ms : List Macro} {rest : List ℕ} → read_book b ≡ got ms rest → require_entries m entries b ≡ cond (ltb m (length ms)) (cond (ltb entries (m + 1)) (refused InsufficientSpace) (got ms rest)) (refused NoSuchMacro)
  unfolding require_entries
  entries-tested {ms} {rest} e =
      by-test (ltb m (length ms))
      (λ h. rw (h, require-in m b e (ltb-true m (length ms) h)) refl)
      (λ h. rw (h, require-out m b e (ltb-false m (length ms) h)) refl)

  entries-stepped : {ms : List Macro} {rest : List ℕ} → read_book b ≡ got ms rest → require_entries m entries b ≡ answer_by refused (λ (u : Unit {0}). got ms rest) (◌>>=◌ (space_step (length ms) m (suc m * 1) entries) settled)
  entries-stepped {ms} {rest} e =
      let one : suc m * 1 ≡ m + 1 = omega arith in
      entries-tested e ∙ sym (rw one (space-answer refused (λ (u : Unit {0}). got ms rest) tt (length ms) m (m + 1) entries))

-- Each way out.
module _ (b before : List ℕ) (m : ℕ) where
  none-listed : {r : Refusal} → require_entries m (length before) b ≡ refused r → ReachAnswer (require_entries m (length before) b) m (refused_for r) before before
  none-listed e = rw e (refl, refl)

  pub list-refused : (r : Refusal) → opened_figures (Err r) ≡ check_result (read_book b) → ReachAnswer (require_entries m (length before) b) m (refused_for r) before before
  list-refused r e = none-listed (entries-refused b (length before) m (require-refused m b (opened-refused b e)))

  module _ (k : Book) (e : opened_figures (Ok k) ≡ check_result (read_book b)) where
    stepped : {s : Settled (Unit {0})} → s ≡ space_step k.macros m (suc m * 1) (length before) → require_entries m (length before) b ≡ answer_by refused (λ (u : Unit {0}). got (macros_in b) []) (◌>>=◌ s settled)
    stepped f = entries-stepped b (length before) m (opened-sound b k e) ∙ rw (← opened-count b k e, ← f) refl

    pub list-short : {r : Refusal} → settled_by (Err r) ≡ space_step k.macros m (suc m * 1) (length before) → ReachAnswer (require_entries m (length before) b) m (refused_for r) before before
    list-short f = none-listed (stepped f)

    module _ (f : settled_by (Ok tt) ≡ space_step k.macros m (suc m * 1) (length before)) where
      pub list-place : {offsets : List ℕ} → offsets ≡ offsets_in b → MacroOf b offsets m
      list-place t = record { table = t; inside = rw (opened-count b k e) at (space-inside k.macros m (suc m * 1) (length before) (Ok tt) f refl) }

      pub list-room : m < length before
      list-room = omega (arith, space-room k.macros m (suc m * 1) (length before) (Ok tt) f refl)

      pub list-written : {n : ℕ} {after : List ℕ} → n ≡ length (reach_list (macros_in b) m) → after ≡ over (reach_list (macros_in b) m) before → ReachAnswer (require_entries m (length before) b) m (answered n) before after
      list-written c w = rw (stepped f) (ap answered c, w)

-- What is answered, for those who lend a list.

-- it rests on what is read of the book alone
pub entries-alike : (m entries : ℕ) (b c : List ℕ) → read_book b ≡ read_book c → require_entries m entries b ≡ require_entries m entries c
unfolding require_entries
entries-alike m entries b c e = rw (require-alike m b c e) refl

-- no book has a macro from 1,024 on: all such numbers are refused alike
entries-beyond : (b : List ℕ) (entries m k : ℕ) → 1024 ≤ m → 1024 ≤ k → (r : Refusal) × (require_entries m entries b ≡ refused r) × (require_entries k entries b ≡ refused r)
entries-beyond b entries m k h l = go (read_book b) refl
  where
    go : (g : Reading (List Macro)) → read_book b ≡ g → (r : Refusal) × (require_entries m entries b ≡ refused r) × (require_entries k entries b ≡ refused r)
    go (got ms rest) e =
        let few : length ms ≤ 1024 = rw e at (macros-few b) in
        (NoSuchMacro, entries-refused b entries m (require-out m b e (omega arith)), entries-refused b entries k (require-out k b e (omega arith)))
    go (refused r) e = (r, entries-refused b entries m (require-refused m b e), entries-refused b entries k (require-refused k b e))

pub reached-beyond : (b before after : List ℕ) (m k : ℕ) (f : Figures ℕ) → 1024 ≤ m → 1024 ≤ k → ReachAnswer (require_entries m (length before) b) m f before after → ReachAnswer (require_entries k (length before) b) k f before after
reached-beyond b before after m k f h l w = let (r, x, y) = entries-beyond b (length before) m k h l in rw y (rw x at w)

-- with 1,024 entries 11 is never answered: what is refused is the book, or the macro's number
pub reached-refusals : (b before after : List ℕ) (m : ℕ) (f : Figures ℕ) → length before ≡ 1024 → ReachAnswer (require_entries m (length before) b) m f before after → BookNumber f.refusal ⊎ (f.refusal ≡ 10)
unfolding require_entries
reached-refusals b before after m f long w = go (read_book b) refl
  where
    go : (g : Reading (List Macro)) → read_book b ≡ g → BookNumber f.refusal ⊎ (f.refusal ≡ 10)
    go (refused r) e = inl (rw (ap (λ (x : Figures ℕ). x.refusal) (rw (require-refused m b e) at w).0) (book-refusals b r e))
    go (got ms rest) e = split (ltb m (length ms)) refl
      where
        split : (x : Bool) → ltb m (length ms) ≡ x → BookNumber f.refusal ⊎ (f.refusal ≡ 10)
        split true h =
            let inside : m < length ms = ltb-true m (length ms) h in
            let few : length ms ≤ 1024 = rw e at (macros-few b) in
            let enough : m + 1 ≤ length before = omega arith in
            let none : f.refusal ≡ 0 = ap (λ (x : Figures ℕ). x.refusal) (rw (require-in m b e inside, le-ltb (length before) (m + 1) enough) at w).0 in
            inl (inl (omega arith))
        split false h = inr (ap (λ (x : Figures ℕ). x.refusal) (rw (require-out m b e (ltb-false m (length ms) h)) at w).0)
