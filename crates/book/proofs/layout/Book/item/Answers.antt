-- `Book::item`: one item of the part.
use Rattle.book.proofs.MacroItems.{place-fits, item-beyond, item-read}
use Rattle.book.proofs.layout.Book.item.Goals as goal

pub returns-then-k-ge64 : goal.returns-then-k-ge64
returns-then-k-ge64 c = search (item-beyond)

pub overflow_mul-width_of : goal.overflow_mul-width_of
overflow_mul-width_of c = search (place-fits)

pub returns : goal.returns
returns c = search (item-read)
