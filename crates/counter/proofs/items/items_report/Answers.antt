-- `items::items_report`: what is kept is that of the items so far, and the steps are theirs.
use Rattle.counter.proofs.ItemLaws.{items-start, items-room, items-on, items-done}
use Rattle.counter.proofs.items.items_report.Goals as goal

pub loop-next-init : goal.loop-next-init
loop-next-init c = search (items-start)

pub overflow_add-steps : goal.overflow_add-steps
overflow_add-steps c = search (items-room)

pub loop-next-preserved : goal.loop-next-preserved
loop-next-preserved c = search (items-on)

pub returns : goal.returns
returns c = search (items-done)
