-- Document 02, S-6: the depth of blocks along a run, where two keys open and close them.
use Rattle.std.specs.Prelude.{ℕ, zero, suc, ◌+◌, ◌≤◌, ◌≡◌, cond, List, [], ◌∷◌, ◌++◌, eqb, length, take, ℤ}
use Rattle.std.proofs.Math.IntN.{sub_ℕ}
use Rattle.std.specs.Int.Signed.{le_z}

-- how many of some keys are k; "a 13 in the run is always that key"
unfoldable pub occurrences : ℕ → List ℕ → ℕ
occurrences k [] = 0
occurrences k (x ∷ w) = cond (eqb x k) 1 0 + occurrences k w

-- the depth behind some keys: "openings less closings, which may be negative"
unfoldable pub depth_after : ℕ → ℕ → List ℕ → ℤ
depth_after opening closing w = sub_ℕ (occurrences opening w) (occurrences closing w)

-- the lower of two whole numbers
unfoldable pub lower : ℤ → ℤ → ℤ
lower a b = cond (le_z a b) a b

-- the lowest of f 0 to f n
unfoldable pub lowest_to : ℕ → (ℕ → ℤ) → ℤ
lowest_to zero f = f zero
lowest_to (suc n) f = lower (lowest_to n f) (f (suc n))

-- "the lowest depth at any point, the start's 0 included": behind no key, the first key, and so on to all keys
unfoldable pub lowest_depth : ℕ → ℕ → List ℕ → ℤ
lowest_depth opening closing w = lowest_to (length w) (λ i. depth_after opening closing (take i w))

-- A run that leaves no block open and closes none that was not opened.
pub record Closed (opening closing : ℕ) (w : List ℕ) : Type 0 where
  -- in every first part of it there are at least as many openings as closings
  pub opened : (u v : List ℕ) → w ≡ u ++ v → occurrences closing u ≤ occurrences opening u
  -- and in the whole as many
  pub balanced : occurrences opening w ≡ occurrences closing w
