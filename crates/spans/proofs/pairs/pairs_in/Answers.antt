-- `pairs::pairs_in`: of the tail, or of the rows.
use Rattle.spans.proofs.Made.{pairs-tail, pairs-rows}
use Rattle.spans.proofs.pairs.pairs_in.Goals as goal

pub returns-then-a : goal.returns-then-a
returns-then-a c = search (pairs-tail)

pub returns : goal.returns
returns c = search (pairs-rows)
