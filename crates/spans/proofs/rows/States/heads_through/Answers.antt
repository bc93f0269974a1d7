-- `States::heads_through`: the heads below q are gathered.
use Rattle.spans.proofs.RowLaws.{gathering-none, gathering-more}
use Rattle.spans.proofs.rows.States.heads_through.Goals as goal

pub loop-q-init : goal.loop-q-init
loop-q-init c = search (gathering-none)

pub loop-q-preserved : goal.loop-q-preserved
loop-q-preserved c = search (gathering-more)
