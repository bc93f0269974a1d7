-- `report::in_report`: the closed lines beside the span.
use Rattle.reports.proofs.Made.{in-made}
use Rattle.reports.proofs.report.in_report.Goals as goal

pub returns : goal.returns
returns c = search (in-made)
