-- `list::put_entry`: a number and LF put one behind the other are one text.
use borrow.Author.Rules.{rules}
use Rattle.output.proofs.LineLaws.{entry-puts}
use Rattle.output.proofs.list.put_entry.Goals as goal

pub returns : goal.returns
returns c = record { text = search (entry-puts, rules); short = search rules }
