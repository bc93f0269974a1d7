-- `items_in`. Invariant: the first `count` items of the bytes are read, and keys of 0 stand behind them.
use native.Mathlib.Omega.{arith}
use Rattle.book.proofs.MacroItems.{place-most, items-start, items-on, items-cut, items-full}
use Rattle.book.proofs.macro_items.items_in.Goals as goal

pub loop-count-init : goal.loop-count-init
loop-count-init c = search (items-start)

pub overflow_mul-width : goal.overflow_mul-width
overflow_mul-width c =
    let most = place-most c.args.version _ c.width_of-width.ensures c.loop-count.count (omega arith) in
    omega (arith, most)

pub returns-in_default : goal.returns-in_default
returns-in_default c = search (items-cut)

pub loop-count-preserved : goal.loop-count-preserved
loop-count-preserved c = search (items-on)

pub returns : goal.returns
returns c = search (items-full)
