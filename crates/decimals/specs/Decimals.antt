-- Numbers in decimal digits.
use Rattle.std.specs.Prelude.{ℕ, zero, suc, ◌+◌, ◌-◌, ◌*◌, ◌/◌, ◌%◌, ◌^◌, min, Bool, true, false, ◌&&◌, cond, Option, None, Some, List, [], ◌∷◌, ◌++◌, leb, ltb, length}

unfoldable pub is_digit : ℕ → Bool
is_digit c = leb 48 c && leb c 57

unfoldable pub all_digits : List ℕ → Bool
all_digits [] = true
all_digits (c ∷ w) = is_digit c && all_digits w

-- at least one digit, and nothing else
abbrev pub is_number : List ℕ → Bool
is_number [] = false
is_number (c ∷ w) = all_digits (c ∷ w)

-- the number that digits write: each stands for itself times ten for every digit behind it
unfoldable pub decimal : List ℕ → ℕ
decimal [] = 0
decimal (c ∷ w) = (c - 48) * 10 ^ length w + decimal w

-- the number that a text writes, where 1,024 stands for all from there on: no book has a macro of such a number
unfoldable pub number_in : List ℕ → Option ℕ
number_in w = cond (is_number w) (Some (min (decimal w) 1024)) None

-- the number of 64 bits that a text writes, if it writes one and that fits
abbrev pub fitting : ℕ → Option ℕ
fitting n = cond (leb n (2 ^ 64 - 1)) (Some n) None

unfoldable pub wide_in : List ℕ → Option ℕ
wide_in w = cond (is_number w) (fitting (decimal w)) None

-- a number with one more digit; no public contract cites it
unfoldable pub wide_step : ℕ → ℕ → Option ℕ
wide_step n d = fitting (10 * n + d)

-- a number's digits, f of them at the most
unfoldable pub numeral_to : ℕ → ℕ → List ℕ
numeral_to zero n = []
numeral_to (suc f) n = cond (ltb n 10) ((48 + n) ∷ []) (numeral_to f (n / 10) ++ ((48 + n % 10) ∷ []))

-- The digits of a number, without a zero in front of others: they write it (`decimal-numeral`), and a number below a power of ten has no
-- more of them than the exponent (`numeral-short`). A number n has at most n + 1 digits.
unfoldable pub numeral : ℕ → List ℕ
numeral n = numeral_to (suc n) n
