-- `keys::put_code`: four bytes.
use borrow.Author.Rules.{rules}
use Rattle.display.proofs.ShownLaws.{code-puts}
use Rattle.display.proofs.keys.put_code.Goals as goal

pub returns : goal.returns
returns c = search (code-puts, rules)
