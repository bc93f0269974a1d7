-- What `find_line` is refused for, and what a refusal leaves: of whatever book, pattern, macro, k, work words and buffer.
use Prim.Native.Nat.{ℕ, ◌<◌, ◌≤◌}
use native.Mathlib.Omega.{arith}
use mathlib.Core.Path.{◌≡◌, refl, sym, ◌∙◌}
use mathlib.Core.Logic.{◌⊎◌, inl, inr, ⊎_elim}
use mathlib.Core.List.{List}
use lib.ListN.{length}
use borrow.Author.Tests.{le-ltb}
use Rattle.book.specs.Format.{Macro}
use Rattle.book.specs.Reading.{Reading, got, read_book}
use Rattle.book.proofs.LayoutLaws.{macros-few}
use Rattle.letters.specs.declared.Case.{Case}
use Rattle.pattern.specs.Reader as reader
use Rattle.find.specs.Answer.{most_words, Outcome, find_result}
use Rattle.find.proofs.Readings.{find-refused-book, find-refused-pattern, find-accepted, both_by}
use Rattle.find.proofs.Theorems.{answer}

-- the number of a refusal, or 0 for a line: up to 10 or 11, "all three after 11 in that order", or 20 of S-8
abbrev pub FindRefusal : ℕ → ℕ → Type 0
FindRefusal low r = (r ≤ low) ⊎ ((r ≡ 15) ⊎ ((r ≡ 16) ⊎ ((r ≡ 17) ⊎ (r ≡ 20))))

-- "with the lent buffer unchanged", and zeros in the answer
abbrev pub Left : List ℕ → Outcome → Type 0
Left buffer o = 0 < o.refusal → (o.number ≡ 0) × (o.length ≡ 0) × (o.buffer ≡ buffer)

-- a line and 15 to 17 come with "the work words written"; any other refusal leaves these, too
abbrev pub LeftWords : List ℕ → Outcome → Type 0
LeftWords work o = (o.refusal ≡ 0 → ⊥) → (o.refusal ≡ 15 → ⊥) → (o.refusal ≡ 16 → ⊥) → (o.refusal ≡ 17 → ⊥) → o.work ≡ work

module _ (c : Case) (b p : List ℕ) (m k : ℕ) (work buffer : List ℕ) where
  pub refused-left : Left buffer (answer c b p m k work buffer)
  refused-left =
      both_by work buffer (λ o q. Left buffer o) (λ r e h. (refl, refl, refl)) (λ v h. (refl, refl, refl)) (λ v h. (refl, refl, refl)) (λ n l v j h. (refl, refl, refl)) (λ n l v j h. absurd (omega arith)) c b p m k

  pub early-left : LeftWords work (answer c b p m k work buffer)
  early-left =
      both_by work buffer (λ o q. LeftWords work o) (λ r e x y z w. refl) (λ v x y z w. absurd (y refl)) (λ v x y z w. absurd (z refl)) (λ n l v j x y z w. absurd (w refl)) (λ n l v j x y z w. absurd (x refl)) c b p m k

  -- 11 is answered only where there are fewer words than are always enough
  refusals-to : (low : ℕ) → 10 ≤ low → (length work < most_words → 11 ≤ low) → FindRefusal low (answer c b p m k work buffer).refusal
  refusals-to low ten eleven =
      both_by work buffer (λ o q. FindRefusal low o.refusal)
      (λ r e. ⊎_elim (λ h. inl (omega arith)) (λ o. ⊎_elim (λ h. inr (inr (inr (inr h)))) (λ (h, few). inl (omega (arith, eleven few))) o) e)
      (λ v. inr (inl refl)) (λ v. inr (inr (inl refl))) (λ n l v j. inr (inr (inr (inl refl)))) (λ n l v j. inl (omega arith)) c b p m k

  -- 1 to 11, 15 to 17 and 20, and nothing else
  pub find-refusals : FindRefusal 11 (answer c b p m k work buffer).refusal
  find-refusals = refusals-to 11 (omega arith) (λ few. omega arith)

  -- not 11 where there are words enough for every book and pattern
  pub find-refusals-most : most_words ≤ length work → FindRefusal 10 (answer c b p m k work buffer).refusal
  find-refusals-most h = refusals-to 10 (omega arith) (λ few. absurd (omega arith))

  -- "A run with more than 2^64 − 1 matches is searched like any other, and 12 does not occur."
  pub twelve-never : (answer c b p m k work buffer).refusal ≡ 12 → ⊥
  twelve-never e =
      ⊎_elim (λ h. omega arith) (λ o. ⊎_elim (λ h. omega arith) (λ o. ⊎_elim (λ h. omega arith) (λ o. ⊎_elim (λ h. omega arith) (λ h. omega arith) o) o) o) find-refusals

-- No book has a macro from 1,024 on: all such numbers are refused alike.
pub find-beyond : (c : Case) (b p : List ℕ) (m n k : ℕ) (work buffer : List ℕ) → 1024 ≤ m → 1024 ≤ n → answer c b p m k work buffer ≡ answer c b p n k work buffer
find-beyond c b p m n k work buffer g h = go (read_book b) (reader.read_pattern p) refl
  where
    go : (r : Reading (List Macro)) (q : reader.Read) → read_book b ≡ r → find_result c r q m k work buffer ≡ find_result c r q n k work buffer
    go (Reading.refused r) q d = find-refused-book c m k work buffer r q ∙ sym (find-refused-book c n k work buffer r q)
    go (got ms rest) (reader.refused r) d = find-refused-pattern c m k work buffer ms rest r ∙ sym (find-refused-pattern c n k work buffer ms rest r)
    go (got ms rest) (reader.accepted t) d =
        let few : length ms ≤ 1024 = rw d at (macros-few b) in
        rw (find-accepted c m k work buffer ms rest t, find-accepted c n k work buffer ms rest t, le-ltb m (length ms) (omega arith), le-ltb n (length ms) (omega arith)) refl
