-- `pairs::sizes`: the states of the rows so far are counted.
use Rattle.spans.proofs.RowLaws.{Summing}
use Rattle.spans.proofs.pairs.sizes.Given as goal

abbrev pub invariant-loop-row : goal.invariant-loop-row
invariant-loop-row l = Summing l.states.count l.rows l.sum l.row-index
