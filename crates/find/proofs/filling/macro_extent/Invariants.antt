-- `filling::macro_extent`: what is kept is that of the items so far.
use Rattle.book.specs.Reading.{macros_in}
use Rattle.find.proofs.FillLaws.{ItemsSoFar}
use Rattle.find.proofs.filling.macro_extent.Given as goal

abbrev pub invariant-loop-next : goal.invariant-loop-next
invariant-loop-next l = ItemsSoFar (macros_in l.book.bytes.now) l.next-items l.all l.next-index
