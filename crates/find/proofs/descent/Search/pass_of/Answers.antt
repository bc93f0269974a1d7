-- `Search::pass_of`: a key itself, or the report of a called macro.
use Rattle.find.proofs.DescentLaws.{pass-key, pass-call}
use Rattle.find.proofs.descent.Search.pass_of.Goals as goal

pub returns-in-Key : goal.returns-in-Key
returns-in-Key c = search (pass-key)

pub returns-in-Call : goal.returns-in-Call
returns-in-Call c = search (pass-call)
