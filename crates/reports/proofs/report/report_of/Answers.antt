-- `report::report_of`: by whether there is a line end, and by the number.
use Rattle.reports.proofs.Made.{flat-open, flat-lines, flat-over}
use Rattle.reports.proofs.report.report_of.Goals as goal
use Rattle.reports.proofs.report.report_of.Goals.{in-true-Some, in-true-None, in-false-default}

pub returns : goal.returns
returns c =
    elim c.if-span.branch [
      | in-true-Some w ↦ rw w.flag-is (search (flat-lines))
      | in-true-None w ↦ rw w.flag-is (search (flat-over))
      | in-false-default w ↦ rw w.flag-is (search (flat-open))
    ]
