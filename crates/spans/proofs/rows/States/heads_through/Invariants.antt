-- `States::heads_through`: the heads below q are gathered.
use Rattle.spans.proofs.RowLaws.{Gathering}
use Rattle.spans.proofs.rows.States.heads_through.Given as goal

abbrev pub invariant-loop-q : goal.invariant-loop-q
invariant-loop-q l = Gathering l.self.count l.a l.y l.heads l.q
