-- `counting::fill`: the first i macros' reports stand in the work words, and the words behind them are untouched.
use native.Mathlib.Omega.{arith}
use mathlib.Core.Path.{ap, ◌∙◌}
use borrow.Author.Rules.{rules}
use Rattle.book.specs.MacroItems.{decoded}
use Rattle.counter.proofs.FillLaws.{fill_start, items-fit, steps-fit, fill_on, fill_done}
use Rattle.counter.proofs.counting.fill.Goals as goal

pub loop-i-init : goal.loop-i-init
loop-i-init c = search (fill_start)

pub items_report-r-requires : goal.items_report-r-requires
items_report-r-requires c = items-fit c.requires c.loop-i.i (c.as_slice.ensures ∙ ap decoded c.items-items.ensures)

pub overflow_add-steps : goal.overflow_add-steps
overflow_add-steps c = steps-fit c.loop-i.invariant c.requires (omega arith) c.items_report-r.ensures

pub loop-i-preserved : goal.loop-i-preserved
loop-i-preserved c =
    fill_on c.loop-i.invariant c.requires (omega arith) (c.as_slice.ensures ∙ ap decoded c.items-items.ensures) c.items_report-r.ensures (search rules) c.store.ensures

pub returns-2 : goal.returns-2
returns-2 c =
    let all = fill_on c.loop-i.invariant c.requires (omega arith) (c.as_slice.ensures ∙ ap decoded c.items-items.ensures) c.items_report-r.ensures (search rules) c.store.ensures in
    fill_done all (omega arith)
