-- `add_byte`: one store.
use Rattle.brackets.proofs.Adding.{byte-added}
use Rattle.brackets.proofs.set.add_byte.Goals as goal

pub returns : goal.returns
returns c = search byte-added
