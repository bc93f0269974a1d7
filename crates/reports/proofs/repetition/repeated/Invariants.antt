-- `repeated`. Invariant: the passes of the lowest digits are joined, and the part has as many passes as the next digit stands for.
use Rattle.reports.proofs.RepetitionLaws.{Repeating}
use Rattle.reports.proofs.repetition.repeated.Given as goal

abbrev pub invariant-loop-left : goal.invariant-loop-left
invariant-loop-left l = Repeating l.n l.initial.part l.all l.part l.left

abbrev pub decreases-loop-left : goal.decreases-loop-left
decreases-loop-left l = l.left
