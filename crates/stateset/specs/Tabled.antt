-- Tables that a rule gives.
use Rattle.std.specs.Prelude.{ℕ, zero, suc, List, [], ◌∷◌}

-- n entries as a rule gives them, from i on
unfoldable pub tabled : (ℕ → ℕ) → ℕ → ℕ → List ℕ
tabled f zero i = []
tabled f (suc n) i = f i ∷ tabled f n (suc i)
