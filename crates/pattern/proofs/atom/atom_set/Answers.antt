-- `atom::atom_set`: a stored atom's state is one member, and another's none.
use Rattle.pattern.proofs.Atoms.{atom-state, atom-high}
use Rattle.pattern.proofs.atom.atom_set.Goals as goal

pub returns-then-k-lt29 : goal.returns-then-k-lt29
returns-then-k-lt29 c = search (atom-state)

pub returns-else-k-lt29 : goal.returns-else-k-lt29
returns-else-k-lt29 c = search (atom-high)
