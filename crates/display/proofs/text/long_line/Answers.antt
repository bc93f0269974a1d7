-- `text::long_line`.
use borrow.Author.Rules.{rules}
use Rattle.display.proofs.TextLaws.{long-put}
use Rattle.display.proofs.text.long_line.Goals as goal

pub returns : goal.returns
returns c = search (long-put, rules)
