-- `Book::item_count`: as many as there is room for in the part, and 64 at the most.
use Rattle.book.proofs.MacroItems.{width-some, item-many}
use Rattle.book.proofs.layout.Book.item_count.Goals as goal

pub nonzero_div-part : goal.nonzero_div-part
nonzero_div-part c = search (width-some)

pub returns : goal.returns
returns c = search (item-many)
