-- Document 02, S-3: the k-th matching line of a run, by meaning.
use Rattle.std.specs.Prelude.{ℕ, suc, ◌-◌, Bool, cond, List, [], ◌∷◌, eqb}
use Rattle.pattern.specs.Meaning.{Query, matches}
use Rattle.lines.specs.Lines.{lines}

-- "its line number (from 1, all lines counted)" and its keys; or there is none
pub data Sought : Type 0 where
  missing : Sought
  found : ℕ → List ℕ → Sought

-- "Given k, from 1, find the k-th matching line": the k-th of some lines that have X, where n is the number of the first one. There is no 0-th.
unfoldable pub kth_in : (List ℕ → Bool) → ℕ → ℕ → List (List ℕ) → Sought
kth_in X k n [] = missing
kth_in X k n (l ∷ ls) = cond (X l) (cond (eqb k 1) (found n l) (kth_in X (k - 1) (suc n) ls)) (kth_in X k (suc n) ls)

-- of the lines of a run
unfoldable pub kth_line : Query → ℕ → List ℕ → Sought
kth_line t k w = kth_in (matches t) k 1 (lines w)
