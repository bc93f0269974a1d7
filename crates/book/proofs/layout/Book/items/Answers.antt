-- `Book::items`: the items of the part.
use Rattle.book.proofs.MacroItems.{items-from}
use Rattle.book.proofs.layout.Book.items.Goals as goal

pub returns : goal.returns
returns c = search items-from
