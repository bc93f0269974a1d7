-- `Unmatched::of_key`: one key is an opening, a closing, or neither.
use Rattle.depth.proofs.CodeLaws.{key-made}
use Rattle.depth.proofs.unmatched.Unmatched.of_key.Goals as goal

pub returns : goal.returns
returns c = search (key-made)
