-- `reporting::fill`: the words of the first i macros stand in front, and the words behind them are untouched.
use mathlib.Core.Path.{◌≡◌}
use Rattle.runs.specs.Kept.{words_over}
use Rattle.book.specs.Reading.{macros_in}
use Rattle.depth.specs.Answer.{macro_words, width}
use Rattle.depth.proofs.reporting.fill.Given as goal

abbrev pub invariant-loop-i : goal.invariant-loop-i
invariant-loop-i l = l.work ≡ words_over (macro_words l.keys.opening l.keys.closing (macros_in l.book.bytes.now)) width l.i l.initial.work
