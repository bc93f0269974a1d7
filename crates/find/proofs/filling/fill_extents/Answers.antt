-- `filling::fill_extents`: the words of the first i macros stand in front, and the words behind them are untouched.
use Rattle.find.proofs.FillLaws.{fill_start, macro-at, place-fits, fill_on, fill_done}
use Rattle.find.proofs.filling.fill_extents.Goals as goal

pub loop-i-init : goal.loop-i-init
loop-i-init c = search (fill_start)

pub macro_extent-run-requires : goal.macro_extent-run-requires
macro_extent-run-requires c = search (macro-at)

pub overflow_mul-i : goal.overflow_mul-i
overflow_mul-i c = search (place-fits)

pub loop-i-preserved : goal.loop-i-preserved
loop-i-preserved c =
    fill_on c.loop-i.invariant c.requires c.loop-i-test.true c.macro_extent-run.ensures c.store_extent.ensures

pub returns-2 : goal.returns-2
returns-2 c = search (fill_done)
