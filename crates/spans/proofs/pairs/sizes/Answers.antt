-- `pairs::sizes`: the states of the rows so far are counted.
use Rattle.spans.proofs.RowLaws.{summing-none, summing-room, summing-more, summing-done}
use Rattle.spans.proofs.pairs.sizes.Goals as goal

pub loop-row-init : goal.loop-row-init
loop-row-init c = search (summing-none)

pub overflow_add-sum : goal.overflow_add-sum
overflow_add-sum c = search (summing-room)

pub loop-row-preserved : goal.loop-row-preserved
loop-row-preserved c = search (summing-more)

pub returns : goal.returns
returns c = summing-done c.args.states.count c.args.rows.now c.args.states.few c.told-rows c.loop-row.invariant c.loop-row-test.false c.loop-row.auto.row-index-end
