-- `list::put_entries`: the first entries are put.
use Rattle.output.proofs.LineLaws.{Listed}
use Rattle.output.proofs.list.put_entries.Given as goal

abbrev pub invariant-loop-n : goal.invariant-loop-n
invariant-loop-n l = Listed l.list l.initial.lines l.lines l.n-index
