-- `key::moved_states`: the tail moves, or each row.
use Rattle.spans.proofs.Made.{moved-rows}
use Rattle.spans.proofs.key.moved_states.Goals as goal

pub returns : goal.returns
returns c = search (moved-rows)
