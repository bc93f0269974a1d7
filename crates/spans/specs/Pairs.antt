-- Document 01, "States and steps": the pairs of states of a run.
use Rattle.std.specs.Prelude.{ℕ, Bool, true, false, List, [], ◌∷◌, get_or}
use Rattle.runs.specs.Counts.{count_below, sum_below}
use Rattle.stateset.specs.Set.{bit}
use Rattle.pattern.specs.Meaning.{Query}
use Rattle.pattern.specs.Moves.{states, leads}
use Rattle.lines.specs.Parts.{later_parts, last_part}
use Rattle.spans.specs.declared.span.Span.{Span}
use Rattle.spans.specs.Joining.{state_count}

-- "the pairs of states (q, p) such that the items before it in that macro lead from q to p", where w is the run of those items:
-- "Before any LF in them q is every state; after one, q is line-start alone, moving since the last LF."
abbrev pub pairs_with : Query → List ℕ → List (List ℕ) → ℕ
pairs_with t w [] = sum_below (states t) (λ q. count_below (states t) (leads t q w))
pairs_with t w (l ∷ ls) = count_below (states t) (leads t 0 (last_part l ls))

unfoldable pub pairs : Query → List ℕ → ℕ
pairs t w = pairs_with t w (later_parts w)

-- the pairs of states that a span shows (`pairs_of`)
abbrev pub pairs_in_with : ℕ → Bool → Span → ℕ
pairs_in_with s false a = sum_below s (λ q. count_below s (bit (get_or a.rows q 0)))
pairs_in_with s true a = count_below s (bit a.tail)

unfoldable pub pairs_in : Span → ℕ
pairs_in a = pairs_in_with (state_count a.s) a.ended a
