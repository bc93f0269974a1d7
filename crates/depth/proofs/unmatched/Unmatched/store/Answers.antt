-- `Unmatched::store`: three stores, one behind the other.
use Rattle.depth.proofs.CodeLaws.{stored-words}
use Rattle.depth.proofs.unmatched.Unmatched.store.Goals as goal

pub returns : goal.returns
returns c = search (stored-words)
