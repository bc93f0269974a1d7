-- `span_count::total_in`: the closed lines, and those at the ends.
use Rattle.reports.proofs.Made.{total_made}
use Rattle.reports.proofs.span_count.total_in.Goals as goal

pub returns : goal.returns
returns c = search (total_made)
