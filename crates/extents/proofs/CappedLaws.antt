-- Laws of numbers that stop at the largest of 64 bits.
use Prim.Native.Nat.{ℕ, zero, suc, ◌+◌, ◌*◌, ◌<◌, ◌≤◌}
use native.Mathlib.Omega.{arith}
use native.Mathlib.Nat.{mul-le-mul_left}
use mathlib.Core.Path.{◌≡◌, refl, sym, ap, ◌∙◌}
use lib.Dec.{eqb}
use borrow.Author.Tests.{le-leb, ne_eqb}
use Rattle.runs.proofs.Tests.{either}
use Rattle.extents.specs.Capped.{most, capped}

pub capped_small : (n : ℕ) → n ≤ most → capped n ≡ n
unfolding capped
capped_small n h = rw (le-leb n most h) refl

pub capped-large : (n : ℕ) → most ≤ n → capped n ≡ most
unfolding capped
capped-large n h = grind arith

pub capped_le : (n : ℕ) → capped n ≤ most
capped_le n = either n most (λ h. rw (capped_small n (omega arith)) (omega arith)) (λ h. rw (capped-large n h) (omega arith))

-- what is below the largest is the number itself
pub capped-below : (n : ℕ) → capped n < most → capped n ≡ n
capped-below n h = either n most (λ l. capped_small n (omega arith)) (λ l. absurd (go (capped-large n l)))
  where
    go : capped n ≡ most → ⊥
    go e = omega (arith, h, e)

-- and what is the largest is at least that
pub capped-most : (n : ℕ) → most ≤ capped n → most ≤ n
capped-most n h = either n most (λ l. absurd (go l (capped_small n (omega arith)))) (λ l. l)
  where
    go : n < most → capped n ≡ n → ⊥
    go l e = omega (arith, h, e)

pub capped-zero : (n : ℕ) → eqb (capped n) 0 ≡ eqb n 0
capped-zero n = either n most (λ h. ap (λ (k : ℕ). eqb k 0) (capped_small n (omega arith))) (λ h. ap (λ (k : ℕ). eqb k 0) (capped-large n h) ∙ sym (ne_eqb n 0 (omega arith)))

-- a sum of capped numbers
pub capped-sum : (a b : ℕ) → capped (capped a + capped b) ≡ capped (a + b)
capped-sum a b = either a most (λ h. rw (capped_small a (omega arith)) (right h)) (λ h. rw (capped-large a h) (both most (capped b) (omega arith) ∙ sym (both a b h)))
  where
    both : (c d : ℕ) → most ≤ c → capped (c + d) ≡ most
    both c d h = capped-large (c + d) (omega arith)

    other : (c d : ℕ) → most ≤ d → capped (c + d) ≡ most
    other c d h = capped-large (c + d) (omega arith)

    right : a < most → capped (a + capped b) ≡ capped (a + b)
    right h = either b most (λ l. rw (capped_small b (omega arith)) refl) (λ l. rw (capped-large b l) (other a most (omega arith) ∙ sym (other a b l)))

-- and a product of one
pub capped-product : (a n : ℕ) → capped (capped a * n) ≡ capped (a * n)
capped-product a zero = let none : (k : ℕ) → k * 0 ≡ 0 = λ k. omega arith in rw (none (capped a), none a) refl
capped-product a (suc n) = either a most (λ h. rw (capped_small a (omega arith)) refl) (λ h. rw (capped-large a h) (many most (omega arith) ∙ sym (many a h)))
  where
    many : (c : ℕ) → most ≤ c → capped (c * suc n) ≡ most
    many c h = let more : c ≤ c * suc n = omega (arith, mul-le-mul_left c (let one : 1 ≤ suc n = omega arith in one)) in capped-large (c * suc n) (omega arith)
