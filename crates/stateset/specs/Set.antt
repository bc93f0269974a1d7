-- A set of numbers as one number: p is in it exactly if digit p, counted from the lowest, is 1.
use Rattle.std.specs.Prelude.{ℕ, zero, suc, ◌+◌, ◌*◌, ◌/◌, ◌%◌, Bool, false, cond, ◌&&◌, ◌||◌, List, eqb, length, get_or}

-- whether p is in the set w
unfoldable pub bit : ℕ → ℕ → Bool
bit w zero = eqb (w % 2) 1
bit w (suc p) = bit (w / 2) p

-- the set of the numbers below s that have X
unfoldable pub word : ℕ → (ℕ → Bool) → ℕ
word zero X = 0
word (suc s) X = word s (λ p. X (suc p)) * 2 + cond (X zero) 1 0

-- some number below n has X
unfoldable pub any_below : ℕ → (ℕ → Bool) → Bool
any_below zero X = false
any_below (suc n) X = any_below n X || X n

-- two sets have a member below s in common
abbrev pub common : ℕ → ℕ → ℕ → Bool
common s x y = any_below s (λ p. bit x p && bit y p)

-- the union of the rows of the members of x; a member that has no row adds nothing
unfoldable pub image_of : List ℕ → ℕ → ℕ
image_of rows x = word 64 (λ p. any_below (length rows) (λ q. bit x q && bit (get_or rows q 0) p))
