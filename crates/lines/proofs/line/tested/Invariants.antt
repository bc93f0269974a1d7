-- `line::tested`: the states are those that the keys so far lead to from line-start, and all of these are keys of a line.
use Rattle.lines.proofs.Testing.{LineSoFar}
use Rattle.lines.proofs.line.tested.Given as goal

abbrev pub invariant-loop-key : goal.invariant-loop-key
invariant-loop-key l = LineSoFar l.tables l.line l.set l.key-index
