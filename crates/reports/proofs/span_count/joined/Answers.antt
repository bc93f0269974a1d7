-- `span_count::joined`: the joined spans, and the closed lines of both.
use Rattle.reports.proofs.Made.{joined_made}
use Rattle.reports.proofs.span_count.joined.Goals as goal

pub returns : goal.returns
returns c = search (joined_made)
