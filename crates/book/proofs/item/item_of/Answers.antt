-- `book::item_of`: a key below 256, a call from there on.
use Rattle.book.proofs.ItemLaws.{item-key, item-call}
use Rattle.book.proofs.item.item_of.Goals as goal

pub returns-then-code-lt256 : goal.returns-then-code-lt256
returns-then-code-lt256 c = search item-key

pub returns-else-code-lt256 : goal.returns-else-code-lt256
returns-else-code-lt256 c = search item-call
