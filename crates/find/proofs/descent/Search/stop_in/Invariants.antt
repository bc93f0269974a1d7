-- `Search::stop_in`: the line has not ended in the items so far.
use Rattle.find.proofs.DescentLaws.{ItemsPassed}
use Rattle.find.proofs.descent.Search.stop_in.Given as goal

abbrev pub invariant-loop-next : goal.invariant-loop-next
invariant-loop-next l = ItemsPassed l.self l.items l.initial.at l.at l.next-index
