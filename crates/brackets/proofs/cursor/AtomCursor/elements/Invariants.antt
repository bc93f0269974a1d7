-- `AtomCursor::elements`. Invariant: what is done from here is done from the start.
use Prim.Native.Nat.{◌-◌}
use lib.ListN.{length}
use Rattle.brackets.proofs.Bracketed.{Going}
use Rattle.brackets.proofs.cursor.AtomCursor.elements.Given as goal

abbrev pub invariant-loop-here : goal.invariant-loop-here
invariant-loop-here l = Going l.s l.initial.here.at l.initial.set l.here.at l.first l.set

abbrev pub decreases-loop-here : goal.decreases-loop-here
decreases-loop-here l = length l.s - l.here.at
