-- `span_count::extended`: the span with a key more, and the line that it closes.
use Rattle.reports.proofs.Made.{extended-made}
use Rattle.reports.proofs.span_count.extended.Goals as goal

pub returns : goal.returns
returns c = search (extended-made)
