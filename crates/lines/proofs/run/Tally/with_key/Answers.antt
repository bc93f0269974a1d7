-- `Tally::with_key`: a line end closes the line less a final CR, another key goes on with it.
use Rattle.lines.proofs.Tallying.{after-end, after-return, after-other}
use borrow.Author.Rules.{rules}
use Rattle.lines.proofs.run.Tally.with_key.Goals as goal

pub returns-then-key-eq10 : goal.returns-then-key-eq10
returns-then-key-eq10 c = rw c.behind.ensures (search (after-end))

pub returns-then-key-eq13 : goal.returns-then-key-eq13
returns-then-key-eq13 c = search (after-return, rules)

pub returns-else-key-eq13 : goal.returns-else-key-eq13
returns-else-key-eq13 c = search (after-other, rules)
