-- `keys::put_key`: by the key.
use borrow.Author.Rules.{rules}
use Rattle.display.proofs.ShownLaws.{slash-puts, coded-puts, plain-puts}
use Rattle.display.proofs.keys.put_key.Goals as goal

pub returns-then-key-eq92 : goal.returns-then-key-eq92
returns-then-key-eq92 c = search (slash-puts, rules)

pub returns-then-key : goal.returns-then-key
returns-then-key c = search (coded-puts, rules)

pub returns : goal.returns
returns c = search (plain-puts, rules)
