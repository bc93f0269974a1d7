-- The measure is the number of bytes left.
use Rattle.pattern.proofs.BranchLists as laws
use Rattle.pattern.proofs.cursor.Cursor.+branches.Goals as goal

pub returns-in_err-here : goal.returns-in_err-here
returns-in_err-here t c = rw c.from_residual.ensures (search (laws.branches-fault, c.in_err-here.ensures))

pub returns-in-0 : goal.returns-in-0
returns-in-0 t c = search (laws.branches-end, c.in_ok-here.ensures)

pub branches-requires : goal.branches-requires
branches-requires t c = search (laws.branches-falls, c.in_ok-here.ensures)

pub returns-in-124 : goal.returns-in-124
returns-in-124 t c = search (laws.branches-more, c.in_ok-here.ensures)

pub returns-in_default : goal.returns-in_default
returns-in_default t c = search (laws.branches-other, c.in_ok-here.ensures)
