-- `store_dot`: all but an empty set.
use Rattle.brackets.proofs.Stored.{dot-stored}
use Rattle.brackets.proofs.set.store_dot.Goals as goal

pub returns : goal.returns
returns c = search dot-stored
