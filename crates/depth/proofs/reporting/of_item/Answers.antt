-- `reporting::of_item`: a key itself, or the words of a called macro.
use Rattle.depth.proofs.CodeLaws.{item-key, item-call}
use Rattle.depth.proofs.reporting.of_item.Goals as goal

pub returns-in-Key : goal.returns-in-Key
returns-in-Key c = search (item-key)

pub returns-in-Call : goal.returns-in-Call
returns-in-Call c = search (item-call)
