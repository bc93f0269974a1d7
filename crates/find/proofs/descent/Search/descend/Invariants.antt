-- `Search::descend`: the line ends in macro i, behind the place. The measure: calls go to lower macros.
use Rattle.find.proofs.DescentLaws.{Level}
use Rattle.find.proofs.descent.Search.descend.Given as goal

abbrev pub invariant-loop-at : goal.invariant-loop-at
invariant-loop-at l = Level l.book.bytes.now l.self l.at l.i

abbrev pub decreases-loop-at : goal.decreases-loop-at
decreases-loop-at l = l.i
