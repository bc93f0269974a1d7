-- `report::join`: reports of one size are joined.
use Rattle.reports.proofs.Made.{join-made}
use Rattle.reports.proofs.report.join.Goals as goal

pub returns : goal.returns
returns c = search (join-made, c.if-not-sizes_alike.ensures)
