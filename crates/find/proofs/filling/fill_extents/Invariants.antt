-- `filling::fill_extents`: the words of the first i macros stand in front, and the words behind them are untouched.
use Rattle.find.proofs.FillLaws.{FillSoFar}
use Rattle.find.proofs.filling.fill_extents.Given as goal

abbrev pub invariant-loop-i : goal.invariant-loop-i
invariant-loop-i l = FillSoFar l.book.bytes.now l.initial.extents l.extents l.i
