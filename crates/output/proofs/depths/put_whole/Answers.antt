-- `depths::put_whole`: a name, a sign where there is one, and digits are one text.
use borrow.Author.Rules.{rules}
use Rattle.output.proofs.WholeLaws.{name-room, minus-puts, minus-short, plain-puts, plain-short}
use Rattle.output.proofs.depths.put_whole.Goals as goal

pub put_field-requires : goal.put_field-requires
put_field-requires c = search (name-room, rules)

pub returns-then-z-lt0 : goal.returns-then-z-lt0
returns-then-z-lt0 c = record { text = search (minus-puts, rules); short = search (minus-short) }

pub returns : goal.returns
returns c = record { text = search (plain-puts, rules); short = search (plain-short) }
