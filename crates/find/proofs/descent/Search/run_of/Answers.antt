-- `Search::run_of`: a report in the work words.
use Rattle.find.proofs.DescentLaws.{place-fits, run-of}
use Rattle.find.proofs.descent.Search.run_of.Goals as goal

pub overflow_mul-at : goal.overflow_mul-at
overflow_mul-at c = search (place-fits)

pub returns : goal.returns
returns c = search (run-of)
