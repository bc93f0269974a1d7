-- Document 02, S-3: how far a run goes. What the four work words of a macro hold is said of its written-out run.
use Rattle.std.specs.Prelude.{ℕ, ◌+◌, cond, List, [], ◌∷◌, eqb, length}
use Rattle.runs.specs.Keys.{line_end}
use Rattle.lines.specs.Parts.{first_part, later_parts, last_part}
use Rattle.extents.specs.declared.extent.Extent.{Extent}
use Rattle.extents.specs.Capped.{capped}

-- how many keys of a run are line ends
unfoldable pub end_count : List ℕ → ℕ
end_count [] = 0
end_count (c ∷ w) = cond (eqb line_end c) 1 0 + end_count w

-- the keys behind the last line end, or all
unfoldable pub open_part : List ℕ → List ℕ
open_part w = last_part (first_part w) (later_parts w)

-- line ends; keys before the first one, or all; keys behind the last one, or all; all keys
unfoldable pub extent_of : List ℕ → Extent
extent_of w = record { ends = capped (end_count w); first = capped (length (first_part w)); last = capped (length (open_part w)); keys = capped (length w) }
