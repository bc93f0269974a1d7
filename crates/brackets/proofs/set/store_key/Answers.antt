-- `store_key`: a set with one byte.
use Rattle.brackets.proofs.Stored.{key-stored}
use Rattle.brackets.proofs.set.store_key.Goals as goal

pub returns : goal.returns
returns c = search key-stored
