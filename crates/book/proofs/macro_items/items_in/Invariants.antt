-- `items_in`. Invariant: the first `count` items of the bytes are read, and keys of 0 stand behind them.
use Rattle.book.proofs.MacroItems.{ItemsSoFar}
use Rattle.book.proofs.macro_items.items_in.Given as goal

abbrev pub invariant-loop-count : goal.invariant-loop-count
invariant-loop-count l = ItemsSoFar l.version l.part l.list l.count
