-- `list::list_lines`: the entries from the front of the buffer on.
use borrow.Author.Rules.{rules}
use Rattle.output.proofs.LineLaws.{list-put}
use Rattle.output.proofs.list.list_lines.Goals as goal

pub returns : goal.returns
returns c = search (list-put, rules)
