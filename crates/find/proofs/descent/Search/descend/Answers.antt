-- `Search::descend`: the line ends in macro i, behind the place. The measure: calls go to lower macros.
use Rattle.find.proofs.DescentLaws.{level-first, level-lower, level-next, level-end}
use Rattle.find.proofs.descent.Search.descend.Goals as goal

pub loop-at-init : goal.loop-at-init
loop-at-init c = search (level-first)

pub returns-in-Key : goal.returns-in-Key
returns-in-Key c =
    level-end c.requires c.loop-at.invariant (rw c.items-items.ensures at c.as_slice.ensures) c.stop_in-stop.ensures c.in-Key.is

pub loop-at-smaller : goal.loop-at-smaller
loop-at-smaller c =
    level-lower c.requires c.loop-at.invariant (rw c.items-items.ensures at c.as_slice.ensures) c.stop_in-stop.ensures c.in-Call.is

pub loop-at-preserved : goal.loop-at-preserved
loop-at-preserved c =
    level-next c.requires c.loop-at.invariant (rw c.items-items.ensures at c.as_slice.ensures) c.stop_in-stop.ensures c.in-Call.is
