-- `repeated`. Invariant: the passes of the lowest digits are joined, and the part has as many passes as the next digit stands for.
use Rattle.reports.proofs.RepetitionLaws.{repeat-none, repeat-more, repeat-done}
use Rattle.reports.proofs.repetition.repeated.Goals as goal

pub loop-left-init : goal.loop-left-init
loop-left-init c = search (repeat-none)

pub loop-left-preserved : goal.loop-left-preserved
loop-left-preserved c = search (repeat-more)

pub returns : goal.returns
returns c = search (repeat-done)
