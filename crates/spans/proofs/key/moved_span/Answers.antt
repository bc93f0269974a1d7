-- `key::moved_span`: a CR, or another key.
use Rattle.spans.proofs.Made.{moved-return, moved-key}
use Rattle.spans.proofs.key.moved_span.Goals as goal

pub returns-then-key-eq13 : goal.returns-then-key-eq13
returns-then-key-eq13 c = search (moved-return)

pub returns : goal.returns
returns c = search (moved-key)
