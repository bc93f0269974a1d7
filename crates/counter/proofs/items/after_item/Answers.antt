-- `items::after_item`: a key extends what is kept, a call joins the called macro's.
use Rattle.counter.proofs.ItemLaws.{call-small, item-key, item-call}
use Rattle.counter.proofs.items.after_item.Goals as goal

pub overflow_mul-at : goal.overflow_mul-at
overflow_mul-at c = search (call-small)

pub returns-in-Key : goal.returns-in-Key
returns-in-Key c = search (item-key)

pub returns-in-Call : goal.returns-in-Call
returns-in-Call c = search (item-call)
