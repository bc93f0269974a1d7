-- `shape::link`: behind the atoms of one set those of another may be entered.
use Rattle.pattern.proofs.Linking.{Linked}
use Rattle.pattern.proofs.shape.link.Given as goal

abbrev pub invariant-loop-word : goal.invariant-loop-word
invariant-loop-word l = Linked l.from l.to l.initial.word-items l.word-items l.rest l.word-index
