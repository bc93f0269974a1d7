-- `Place::start`: the line end in front.
use Rattle.find.proofs.DescentLaws.{starts-at}
use Rattle.find.proofs.descent.Place.start.Goals as goal

pub returns : goal.returns
returns c = search (starts-at)
