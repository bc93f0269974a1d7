-- `list::put_entries`: the first entries are put.
use borrow.Author.Rules.{rules}
use Rattle.output.proofs.LineLaws.{listed-none, listed-room, listed_more, listed-all, listed-short}
use Rattle.output.proofs.list.put_entries.Goals as goal

pub loop-n-init : goal.loop-n-init
loop-n-init c = search (listed-none, rules)

pub put_entry-requires : goal.put_entry-requires
put_entry-requires c = search (listed-room, rules)

pub loop-n-preserved : goal.loop-n-preserved
loop-n-preserved c = search (listed_more, rules)

pub returns : goal.returns
returns c = record { text = search (listed-all, rules); short = search (listed-short, rules) }
