-- What `locate_line` tells, beside what `find_line` answers: of whatever book, pattern, macro, k, work words and buffer. A slice has fewer than
-- 2^63 bytes, so a buffer is always shorter than `longest`.
use Prim.Native.Nat.{ℕ, ◌<◌}
use native.Mathlib.Omega.{arith}
use mathlib.Core.Path.{◌≡◌, refl}
use mathlib.Core.Logic.{◌↔◌, ⊎_elim}
use mathlib.Core.List.{List}
use lib.ListN.{length}
use Rattle.book.specs.Reading.{read_book}
use Rattle.letters.specs.declared.Case.{Case}
use Rattle.pattern.specs.Reader as reader
use Rattle.find.specs.Answer.{longest, told, Location, locate_result}
use Rattle.find.proofs.LocateLaws.{told-is}
use Rattle.find.proofs.Readings.{both_by}
use Rattle.find.proofs.Theorems.{answer}

-- what is told of the k-th matching line of macro m, of a book and under a pattern as they are lent
abbrev pub located : Case → List ℕ → List ℕ → ℕ → ℕ → List ℕ → Location
located c b p m k work = locate_result c (read_book b) (reader.read_pattern p) m k work

-- what is told of a number is more than a small one exactly if the number is
told-above : (n i : ℕ) → n < longest → (n < i) ↔ (n < told i)
told-above n i h = rw (← told-is i) ((λ j. omega arith), λ j. omega arith)

module _ (c : Case) (b p : List ℕ) (m k : ℕ) (work buffer : List ℕ) where
  -- both leave the same work words
  pub located-words : (answer c b p m k work buffer).work ≡ (located c b p m k work).work
  located-words = both_by work buffer (λ o q. o.work ≡ q.work) (λ r e. refl) (λ v. refl) (λ v. refl) (λ n l v j. refl) (λ n l v j. refl) c b p m k

  -- what `locate_line` refuses `find_line` refuses, for the same reason
  pub located-refused : 0 < (located c b p m k work).refusal → (answer c b p m k work buffer).refusal ≡ (located c b p m k work).refusal
  located-refused = both_by work buffer (λ o q. 0 < q.refusal → o.refusal ≡ q.refusal) (λ r e h. refl) (λ v h. refl) (λ v h. refl) (λ n l v j h. absurd (omega arith)) (λ n l v j h. absurd (omega arith)) c b p m k

  module _ (fits : length buffer < longest) where
    -- the line that is answered is the one that is told of
    pub located-answered : (answer c b p m k work buffer).refusal ≡ 0
        → ((located c b p m k work).refusal ≡ 0) × ((located c b p m k work).number ≡ (answer c b p m k work buffer).number) × ((located c b p m k work).length ≡ (answer c b p m k work buffer).length)
    located-answered =
        both_by work buffer (λ o q. o.refusal ≡ 0 → (q.refusal ≡ 0) × (q.number ≡ o.number) × (q.length ≡ o.length))
        (λ r e h. (h, refl, refl)) (λ v h. absurd (omega arith)) (λ v h. absurd (omega arith)) (λ n l v j h. absurd (omega arith))
        (λ n l v j h. (refl, refl, rw (← told-is (length l)) (omega arith))) c b p m k

    -- "17 the buffer is shorter than the line": exactly if it is shorter than is told
    pub too-short-iff : ((answer c b p m k work buffer).refusal ≡ 17) ↔ (((located c b p m k work).refusal ≡ 0) × (length buffer < (located c b p m k work).length))
    too-short-iff =
        both_by work buffer (λ o q. (o.refusal ≡ 17) ↔ ((q.refusal ≡ 0) × (length buffer < q.length)))
        (λ r e. ((λ h. absurd (⊎_elim (λ x. omega arith) (λ o. ⊎_elim (λ x. omega arith) (λ (x, y). omega arith) o) e)), λ (h, j). absurd (omega arith)))
        (λ v. ((λ h. absurd (omega arith)), λ (h, j). absurd (omega arith))) (λ v. ((λ h. absurd (omega arith)), λ (h, j). absurd (omega arith)))
        (λ n l v j. ((λ h. (refl, (told-above (length buffer) (length l) fits).0 j)), λ h. refl))
        (λ n l v j. ((λ h. absurd (omega arith)), λ (h, i). absurd (omega (arith, (told-above (length buffer) (length l) fits).1 i)))) c b p m k
