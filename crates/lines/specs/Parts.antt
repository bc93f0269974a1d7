-- The parts of a run between line ends. A line end is here the key LF alone, also where a CR stands before it: `Lines.antt` takes that CR
-- off.
use Rattle.std.specs.Prelude.{ℕ, Bool, false, cond, List, [], ◌∷◌, eqb}
use Rattle.runs.specs.Keys.{line_end}

-- whether the run begins with a line end
unfoldable pub begins_with_end : List ℕ → Bool
begins_with_end [] = false
begins_with_end (c ∷ w) = eqb line_end c

-- the keys before the first line end, or all
unfoldable pub first_part : List ℕ → List ℕ
first_part [] = []
first_part (c ∷ w) = cond (eqb line_end c) [] (c ∷ first_part w)

-- behind each line end, the keys up to the next one, or to the run's end
unfoldable pub later_parts : List ℕ → List (List ℕ)
later_parts [] = []
later_parts (c ∷ w) = cond (eqb line_end c) (first_part w ∷ later_parts w) (later_parts w)

-- the last of some parts, and those before it
unfoldable pub last_part : List ℕ → List (List ℕ) → List ℕ
last_part l [] = l
last_part l (m ∷ ms) = last_part m ms

unfoldable pub parts_before : List ℕ → List (List ℕ) → List (List ℕ)
parts_before l [] = []
parts_before l (m ∷ ms) = l ∷ parts_before m ms
