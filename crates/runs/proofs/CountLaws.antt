-- Laws of counts and sums over the numbers below a bound.
use Prim.Native.Nat.{ℕ, zero, suc, ◌+◌, ◌*◌, ◌<◌, ◌≤◌}
use native.Mathlib.Omega.{arith}
use native.Mathlib.Nat.{add-zero}
use native.Mathlib.Numerals.{add-one}
use native.Mathlib.Decide.{le_ind}
use mathlib.Core.Path.{◌≡◌, refl}
use mathlib.Core.Bool.{Bool, true, false, cond}
use Rattle.runs.specs.Counts.{count_below, sum_below}

-- tests that agree below n count alike
pub count-ext : (n : ℕ) (X Y : ℕ → Bool) → ((k : ℕ) → k < n → X k ≡ Y k) → count_below n X ≡ count_below n Y
unfolding count_below
count-ext zero X Y e = refl
count-ext (suc n) X Y e = rw (count-ext n X Y (λ k h. e k (omega arith)), e n (omega arith)) refl

-- no more than n numbers below n have X
pub count-le : (n : ℕ) (X : ℕ → Bool) → count_below n X ≤ n
unfolding count_below
count-le zero X = omega arith
count-le (suc n) X = go (X n) (count-le n X)
  where
    go : (b : Bool) {c : ℕ} → c ≤ n → c + cond b 1 0 ≤ suc n
    go true h = omega arith
    go false h = omega arith

-- numbers from n on that do not have X do not count
pub count-widen : (n m : ℕ) (X : ℕ → Bool) → n ≤ m → ((k : ℕ) → n ≤ k → X k ≡ false) → count_below m X ≡ count_below n X
unfolding count_below
count-widen n m X h e = le_ind (λ (m : ℕ). count_below m X ≡ count_below n X) refl (λ m l i. rw (i, e m l) (add-zero (count_below n X))) m h

-- none has X
pub count_none : (n : ℕ) (X : ℕ → Bool) → ((k : ℕ) → X k ≡ false) → count_below n X ≡ 0
unfolding count_below
count_none n X e = count-widen 0 n X (omega arith) (λ k h. e k)

-- nothing below 0, and one number more
pub count-zero : (X : ℕ → Bool) → count_below 0 X ≡ 0
unfolding count_below
count-zero X = refl

pub count-more : (n : ℕ) (X : ℕ → Bool) → count_below (suc n) X ≡ count_below n X + cond (X n) 1 0
unfolding count_below
count-more n X = refl

-- zero counted first, and the others one lower
pub count-first : (n : ℕ) (X : ℕ → Bool) → count_below (suc n) X ≡ cond (X zero) 1 0 + count_below n (λ k. X (suc k))
unfolding count_below
count-first zero X = omega arith
count-first (suc n) X = omega (arith, count-first n X)

-- Sums.

pub sum-none : (f : ℕ → ℕ) → sum_below 0 f ≡ 0
unfolding sum_below
sum-none f = refl

pub sum_more : (n : ℕ) (f : ℕ → ℕ) → sum_below (n + 1) f ≡ sum_below n f + f n
unfolding sum_below
sum_more n f = rw (add-one n) refl

pub sum-ext : (n : ℕ) (f g : ℕ → ℕ) → ((k : ℕ) → k < n → f k ≡ g k) → sum_below n f ≡ sum_below n g
unfolding sum_below
sum-ext zero f g e = refl
sum-ext (suc n) f g e = rw (sum-ext n f g (λ k h. e k (omega arith)), e n (omega arith)) refl

-- numbers from n on that add nothing
pub sum-widen : (n m : ℕ) (f : ℕ → ℕ) → n ≤ m → ((k : ℕ) → n ≤ k → f k ≡ 0) → sum_below m f ≡ sum_below n f
unfolding sum_below
sum-widen n m f h e = le_ind (λ (m : ℕ). sum_below m f ≡ sum_below n f) refl (λ m l i. rw (i, e m l) (add-zero (sum_below n f))) m h

-- of numbers that are each at most k
pub sum-le : (n k : ℕ) (f : ℕ → ℕ) → ((i : ℕ) → i < n → f i ≤ k) → sum_below n f ≤ n * k
unfolding sum_below
sum-le zero k f h = omega arith
sum-le (suc n) k f h = omega (arith, sum-le n k f (λ i l. h i (omega arith)), h n (omega arith))

-- of numbers that are each at most k times another
pub sum-scale : (n k : ℕ) (f g : ℕ → ℕ) → ((i : ℕ) → f i ≤ g i * k) → sum_below n f ≤ sum_below n g * k
unfolding sum_below
sum-scale zero k f g h = omega arith
sum-scale (suc n) k f g h = omega (arith, sum-scale n k f g h, h n)
