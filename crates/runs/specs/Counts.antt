-- Counts and sums over the numbers below a bound.
use Rattle.std.specs.Prelude.{ℕ, zero, suc, ◌+◌, Bool, cond}

-- how many numbers below n have X
unfoldable pub count_below : ℕ → (ℕ → Bool) → ℕ
count_below zero X = 0
count_below (suc n) X = count_below n X + cond (X n) 1 0

-- the sum of f over the numbers below n
unfoldable pub sum_below : ℕ → (ℕ → ℕ) → ℕ
sum_below zero f = 0
sum_below (suc n) f = sum_below n f + f n
