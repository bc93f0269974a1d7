-- `counting::fill`: the first i macros' reports stand in the work words, and the words behind them are untouched.
use Rattle.book.specs.Reading.{macros_in}
use Rattle.counter.proofs.FillLaws.{FillSoFar}
use Rattle.counter.proofs.counting.fill.Given as goal

abbrev pub invariant-loop-i : goal.invariant-loop-i
invariant-loop-i l = FillSoFar l.tables.keys l.tables.enter l.tables.accepting (macros_in l.book.bytes.now) l.m l.initial.work l.work l.steps l.i
