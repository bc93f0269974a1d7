-- The cycle of readers. The measure is a bound on how deep they call each other; the bytes left fall.
use Rattle.pattern.proofs.Cycles as laws
use Rattle.pattern.proofs.cursor.Cursor.+alternatives_branch_group_piece.Goals as goal

pub alternatives-returns-in_err-here : goal.alternatives-returns-in_err-here
alternatives-returns-in_err-here t c = rw c.from_residual.ensures (search (laws.alts-fault, c.in_err-here.ensures))

pub alternatives-returns-then-byte-ne124 : goal.alternatives-returns-then-byte-ne124
alternatives-returns-then-byte-ne124 t c = search (laws.alts-one, c.in_ok-here.ensures)

pub alternatives-alternatives-requires : goal.alternatives-alternatives-requires
alternatives-alternatives-requires t c = search (laws.bar-falls, c.in_ok-here.ensures)

pub alternatives-returns-in_err-end : goal.alternatives-returns-in_err-end
alternatives-returns-in_err-end t c = rw c.from_residual-in_err-end.ensures (search (laws.alts-more-fault, c.in_ok-here.ensures, c.in_err-end.ensures))

pub alternatives-returns : goal.alternatives-returns
alternatives-returns t c = search (laws.alts-more, c.in_ok-here.ensures, c.in_ok-end.ensures)

pub branch-returns-in_err-here : goal.branch-returns-in_err-here
branch-returns-in_err-here t c = rw c.from_residual.ensures (search (laws.branch-fault, c.in_err-here.ensures))

pub branch-returns-then-ends_pieces : goal.branch-returns-then-ends_pieces
branch-returns-then-ends_pieces t c = search (laws.branch-last, c.in_ok-here.ensures)

pub branch-branch-here-requires-2 : goal.branch-branch-here-requires-2
branch-branch-here-requires-2 t c = search (laws.on-falls, c.in_ok-here.ensures)

pub branch-returns-in_err-end : goal.branch-returns-in_err-end
branch-returns-in_err-end t c = rw c.from_residual-in_err-end.ensures (search (laws.branch-more-fault, c.in_ok-here.ensures, c.in_err-end.ensures))

pub branch-link-requires : goal.branch-link-requires
branch-link-requires t c = search (laws.read_small, c.in_ok-here.ensures)

pub branch-returns : goal.branch-returns
branch-returns t c = search (laws.branch-more, c.in_ok-here.ensures, c.in_ok-end.ensures)

pub group-returns-in_err-here : goal.group-returns-in_err-here
group-returns-in_err-here t c = rw c.from_residual.ensures (search (laws.group-fault, c.in_err-here.ensures))

pub group-returns-then-byte-ne41 : goal.group-returns-then-byte-ne41
group-returns-then-byte-ne41 t c = search (laws.group-open, c.in_ok-here.ensures)

pub group-returns : goal.group-returns
group-returns t c = search (laws.group-closed, c.in_ok-here.ensures)

pub piece-group-requires : goal.piece-group-requires
piece-group-requires t c = search (laws.paren-falls)

pub piece-returns-in_err-here : goal.piece-returns-in_err-here
piece-returns-in_err-here t c = rw c.from_residual.ensures (search (laws.piece-fault, c.in_err-here.ensures))

pub piece-repetition-requires : goal.piece-repetition-requires
piece-repetition-requires t c = search (laws.read_small, c.in_ok-here.ensures)

pub piece-returns-then-byte-eq40 : goal.piece-returns-then-byte-eq40
piece-returns-then-byte-eq40 t c = search (laws.piece-group, c.in_ok-here.ensures)

pub piece-returns-in_err-here-2 : goal.piece-returns-in_err-here-2
piece-returns-in_err-here-2 t c = rw c.from_residual-in_err-here-2.ensures (search (laws.piece-atom-fault, c.in_err-here-2.ensures))

pub piece-repetition-requires-2 : goal.piece-repetition-requires-2
piece-repetition-requires-2 t c = search (laws.atom-small, c.in_ok-here-2.ensures)

pub piece-returns : goal.piece-returns
piece-returns t c = search (laws.piece-atom, c.in_ok-here-2.ensures)
