-- `run::counted`: what is counted and what is left make the whole count.
use Rattle.lines.proofs.Tallying.{RunSoFar}
use Rattle.lines.proofs.run.counted.Given as goal

abbrev pub invariant-loop-key : goal.invariant-loop-key
invariant-loop-key l = RunSoFar l.tables l.run l.tally l.key-index
