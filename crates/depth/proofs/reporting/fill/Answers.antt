-- `reporting::fill`: the words of the first i macros stand in front, and the words behind them are untouched.
use mathlib.Core.Path.{refl}
use Rattle.runs.proofs.KeptLaws.{words-none}
use native.Mathlib.Omega.{arith}
use Rattle.depth.proofs.BookLaws.{fill-last, fill-on, macro-at}
use Rattle.depth.proofs.reporting.fill.Goals as goal

pub loop-i-init : goal.loop-i-init
loop-i-init c = rw words-none refl

pub of_macro-run-requires : goal.of_macro-run-requires
of_macro-run-requires c = search (macro-at)

pub loop-i-preserved : goal.loop-i-preserved
loop-i-preserved c = search (fill-on)

pub returns : goal.returns
returns c = absurd (omega arith)

pub returns-2 : goal.returns-2
returns-2 c = search (fill-last)
