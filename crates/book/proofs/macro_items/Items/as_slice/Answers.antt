-- `Items::as_slice`: the first items.
use borrow.Author.Rules.{rules}
use Rattle.book.proofs.MacroItems.{shown}
use Rattle.book.proofs.macro_items.Items.as_slice.Goals as goal

pub returns : goal.returns
returns c = rw (c.min.ensures) (shown c.args.self.now (search rules))
