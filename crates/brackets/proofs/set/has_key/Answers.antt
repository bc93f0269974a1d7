-- `has_key`: neither 0 nor LF, and what the folded set says.
use Rattle.brackets.proofs.Adding.{key-tests}
use Rattle.brackets.proofs.set.has_key.Goals as goal

pub returns : goal.returns
returns c = search key-tests
