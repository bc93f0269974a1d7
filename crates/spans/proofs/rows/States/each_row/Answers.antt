-- `States::each_row`: the rows of the first q states are made.
use Rattle.spans.proofs.RowLaws.{building-none, building-more, building-done}
use Rattle.spans.proofs.rows.States.each_row.Goals as goal

pub loop-q-init : goal.loop-q-init
loop-q-init g c = λ X f. building-none c.args.self.count X

pub loop-q-preserved : goal.loop-q-preserved
loop-q-preserved g c = λ X f. building-more c.args.self.count X (c.loop-q.invariant X f) c.loop-q-test.true c.args.self.few (f _ _ c.loop-q-test.true c.row.ensures)

pub returns : goal.returns
returns g c = λ X f. building-done c.args.self.count X (c.loop-q.invariant X f) c.loop-q-test.false c.loop-q.auto.q-end
