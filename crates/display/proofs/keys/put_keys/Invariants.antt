-- `keys::put_keys`: the first keys are shown.
use Rattle.display.proofs.ShownLaws.{Showing}
use Rattle.display.proofs.keys.put_keys.Given as goal

abbrev pub invariant-loop-key : goal.invariant-loop-key
invariant-loop-key l = Showing l.keys l.initial.line l.line l.key-index
