-- `items::items_report`: what is kept is that of the items so far, and the steps are theirs.
use Rattle.counter.proofs.ItemLaws.{ItemsSoFar}
use Rattle.counter.proofs.items.items_report.Given as goal

abbrev pub invariant-loop-next : goal.invariant-loop-next
invariant-loop-next l = ItemsSoFar l.tables.keys l.tables.enter l.tables.accepting l.work l.items l.kept l.steps l.next-index
