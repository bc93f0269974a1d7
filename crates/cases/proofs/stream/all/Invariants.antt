-- It ends: the bytes left fall.
use lib.ListN.{length}
use Rattle.cases.proofs.stream.all.Given as goal

abbrev pub decreases-loop-rest : goal.decreases-loop-rest
decreases-loop-rest l = length l.rest
