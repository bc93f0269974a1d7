-- `line::put_field`: a name and a number put one behind the other are one text.
use borrow.Author.Rules.{rules}
use Rattle.output.proofs.LineLaws.{field-puts}
use Rattle.output.proofs.line.put_field.Goals as goal

pub returns : goal.returns
returns c = record { text = search (field-puts, rules); short = search rules }
