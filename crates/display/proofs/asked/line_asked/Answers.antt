-- `asked::line_asked`: what is told of the parts that were read is told of the whole.
use borrow.Author.Rules.{rules}
use Rattle.display.proofs.AskedLaws.{lines-read, lines_none}
use Rattle.display.proofs.asked.line_asked.Goals as goal

pub returns-in_err-m : goal.returns-in_err-m
returns-in_err-m c = search (lines_none, rules)

pub returns : goal.returns
returns c = search (lines-read, rules)
