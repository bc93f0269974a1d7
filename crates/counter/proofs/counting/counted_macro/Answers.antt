-- `counting::counted_macro`: the count is that of macro m's run.
use Rattle.counter.proofs.BookLaws.{macro-lines, macro-over}
use Rattle.counter.proofs.counting.counted_macro.Goals as goal

pub returns-in-Some : goal.returns-in-Some
returns-in-Some c =
    macro-lines c.requires c.fill-counted.ensures c.version.ensures c.steps_for-steps.ensures c.load-report.ensures c.in_report.ensures c.total_in.ensures c.in-Some.is

pub returns-in-None : goal.returns-in-None
returns-in-None c =
    macro-over c.requires c.fill-counted.ensures c.version.ensures c.steps_for-steps.ensures c.load-report.ensures c.in_report.ensures c.total_in.ensures c.in-None.is
