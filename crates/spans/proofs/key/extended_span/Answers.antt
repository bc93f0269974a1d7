-- `key::extended_span`: a line end is joined, another key moves.
use Rattle.spans.proofs.Made.{extended-end, extended-key}
use Rattle.spans.proofs.key.extended_span.Goals as goal

pub returns-then-key-eq10 : goal.returns-then-key-eq10
returns-then-key-eq10 c = search (extended-end)

pub returns : goal.returns
returns c = search (extended-key)
