-- Laws of a number's digits.
use Prim.Native.Nat.{ℕ, zero, suc, ◌+◌, ◌-◌, ◌*◌, ◌/◌, ◌%◌, ◌^◌, ◌<◌, ◌≤◌}
use native.Mathlib.Nat.{pow-succ', mul_assoc, mul_comm, add-mul, add_assoc}
use native.Mathlib.Omega.{arith}
use native.Mathlib.Numerals.{add-one}
use mathlib.Core.Path.{◌≡◌, refl, sym, ◌∙◌}
use mathlib.Core.Bool.{Bool, true, false, cond}
use mathlib.Core.List.{List, [], ◌∷◌, ◌++◌}
use lib.Dec.{ltb}
use lib.ListN.{length, length-append}
use borrow.Author.Tests.{ltb-true, ltb-false, lt-ltb, le-ltb, le-leb}
use Rattle.runs.proofs.Tests.{and_parts}
use Rattle.io.specs.Digits.{last_digits, IsDigitCount}
use Rattle.decimals.specs.Decimals.{is_digit, all_digits, is_number, decimal, numeral_to, numeral}

-- one power more
ten-more : (k : ℕ) → 10 ^ suc k ≡ 10 * 10 ^ k
ten-more k = pow-succ' 10 k

ten-positive : (k : ℕ) → 1 ≤ 10 ^ k
ten-positive zero = omega arith
ten-positive (suc k) = omega (arith, ten-more k, ten-positive k)

-- a power is larger than its exponent
ten-grows : (k : ℕ) → k < 10 ^ k
ten-grows zero = omega arith
ten-grows (suc k) = omega (arith, ten-more k, ten-grows k)

-- the fewest digits of a number, by those of its tenth
fewer : (j n : ℕ) → IsDigitCount 10 1 n (suc (suc j)) → IsDigitCount 10 1 (n / 10) (suc j)
fewer j n w = grind arith

-- those digits are the numeral
digits-numeral : (k f n : ℕ) → IsDigitCount 10 1 n k → k ≤ f → last_digits 10 k n ≡ numeral_to f n
unfolding numeral_to
digits-numeral zero f n (some, small, large) h = absurd (omega arith)
digits-numeral (suc k) zero n w h = absurd (omega arith)
digits-numeral (suc zero) (suc f) n (some, small, large) h =
    let low : n < 10 = small in
    let digit : n % 10 ≡ n = omega arith in
    rw (lt-ltb n 10 low, digit, lt-ltb n 10 low) refl
digits-numeral (suc (suc j)) (suc f) n (some, small, large) h =
    let one : suc (suc j) - 1 ≡ suc j = omega arith in
    let many : 10 ^ suc j ≤ n = rw one at (large (omega arith)) in
    let high : 10 ≤ n = omega (arith, ten-more j, ten-positive j) in
    let digit : n % 10 < 10 = omega arith in
    rw (le-ltb n 10 high, lt-ltb (n % 10) 10 digit, digits-numeral (suc j) f (n / 10) (fewer j n (some, small, large)) (omega arith)) refl

-- no number has more digits than itself and one
fewest-few : (k n : ℕ) → IsDigitCount 10 1 n k → k ≤ suc n
fewest-few zero n w = omega arith
fewest-few (suc zero) n w = omega arith
fewest-few (suc (suc j)) n (some, small, large) =
    let one : suc (suc j) - 1 ≡ suc j = omega arith in
    let many : 10 ^ suc j ≤ n = rw one at (large (omega arith)) in
    omega (arith, ten-grows (suc j))

-- what `io::decimal` writes is the numeral
pub decimal-digits : (n k : ℕ) → IsDigitCount 10 1 n k → last_digits 10 k n ≡ numeral n
unfolding numeral
decimal-digits n k w = digits-numeral k (suc n) n w (fewest-few k n w)

-- a number below a power of ten has no more digits than the exponent
short-to : (k f n : ℕ) → 1 ≤ k → n < 10 ^ k → length (numeral_to f n) ≤ k
unfolding numeral_to
short-to k zero n s h = omega arith
short-to zero (suc f) n s h = absurd (omega arith)
short-to (suc zero) (suc f) n s h = rw (lt-ltb n 10 h) (omega arith)
short-to (suc (suc k)) (suc f) n s h = go (ltb n 10) (short-to (suc k) f (n / 10) (omega arith) (omega (arith, ten-more (suc k))))
  where
    go : (b : Bool) → length (numeral_to f (n / 10)) ≤ suc k → length (cond b ((48 + n) ∷ []) (numeral_to f (n / 10) ++ ((48 + n % 10) ∷ []))) ≤ suc (suc k)
    go true l = omega arith
    go false l = rw (length-append (numeral_to f (n / 10)) ((48 + n % 10) ∷ [])) (omega arith)

pub numeral-short : (k n : ℕ) → 1 ≤ k → n < 10 ^ k → length (numeral n) ≤ k
unfolding numeral
numeral-short k n s h = short-to k (suc n) n s h

-- The digits of a number write it.
digit-is : (d : ℕ) → d < 10 → is_digit (48 + d) ≡ true
unfolding is_digit
digit-is d h = rw (le-leb 48 (48 + d) (omega arith), le-leb (48 + d) 57 (omega arith)) refl

digits_more : (w : List ℕ) (c : ℕ) → all_digits w ≡ true → is_digit c ≡ true → all_digits (w ++ (c ∷ [])) ≡ true
unfolding all_digits
digits_more [] c h e = rw e refl
digits_more (d ∷ w) c h e = let (one, others) = and_parts (is_digit d) (all_digits w) h in rw (one, digits_more w c others e) refl

decimal-more : (w : List ℕ) (c : ℕ) → decimal (w ++ (c ∷ [])) ≡ decimal w * 10 + (c - 48)
unfolding decimal
decimal-more [] c = omega arith
decimal-more (d ∷ w) c =
    let p = 10 ^ length w in
    let long : 10 ^ length (w ++ (c ∷ [])) ≡ p * 10 = rw (length-append w (c ∷ []), add-one (length w), ten-more (length w)) (mul_comm 10 p) in
    rw (long, decimal-more w c) (go (d - 48) p (decimal w))
  where
    go : (x p v : ℕ) → x * (p * 10) + (v * 10 + (c - 48)) ≡ (x * p + v) * 10 + (c - 48)
    go x p v = rw (← mul_assoc x p 10, add-mul (x * p) v 10) (sym (add_assoc (x * p * 10) (v * 10) (c - 48)))

-- digits that write a number, at least one
abbrev Writes : List ℕ → ℕ → Type 0
Writes w n = (all_digits w ≡ true) × (decimal w ≡ n) × (1 ≤ length w)

written-to : (f n : ℕ) → n < f → Writes (numeral_to f n) n
unfolding numeral_to all_digits decimal
written-to zero n h = absurd (omega arith)
written-to (suc f) n h = go (ltb n 10) refl (λ l. written-to f (n / 10) l)
  where
    go : (b : Bool) → ltb n 10 ≡ b → (n / 10 < f → Writes (numeral_to f (n / 10)) (n / 10)) → Writes (cond b ((48 + n) ∷ []) (numeral_to f (n / 10) ++ ((48 + n % 10) ∷ []))) n
    go true e k = let low : n < 10 = ltb-true n 10 e in (rw (digit-is n low) refl, omega arith, omega arith)
    go false e k =
        let high : 10 ≤ n = ltb-false n 10 e in
        let digit : n % 10 < 10 = omega arith in
        let (all, value, some) = k (omega arith) in
        (digits_more (numeral_to f (n / 10)) (48 + n % 10) all (digit-is (n % 10) digit), decimal-more (numeral_to f (n / 10)) (48 + n % 10) ∙ rw value (omega arith), rw (length-append (numeral_to f (n / 10)) ((48 + n % 10) ∷ [])) (omega arith))

-- a numeral is a number, and the one that it was made of
pub numeral-number : (n : ℕ) → is_number (numeral n) ≡ true
unfolding numeral
numeral-number n = let (all, value, some) = written-to (suc n) n (omega arith) in go (numeral_to (suc n) n) some all
  where
    go : (w : List ℕ) → 1 ≤ length w → all_digits w ≡ true → is_number w ≡ true
    go [] l h = absurd (omega arith)
    go (c ∷ w) l h = h

pub decimal-numeral : (n : ℕ) → decimal (numeral n) ≡ n
unfolding numeral
decimal-numeral n = (written-to (suc n) n (omega arith)).1
