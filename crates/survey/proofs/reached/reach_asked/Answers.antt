-- `reached::reach_asked`: what is listed of the part that was read is listed of the whole.
use borrow.Author.Rules.{rules}
use Rattle.survey.proofs.ReachLaws.{reach-read, reach_none}
use Rattle.survey.proofs.reached.reach_asked.Goals as goal

pub returns-in_err-m : goal.returns-in_err-m
returns-in_err-m c = search (reach_none, rules)

pub returns : goal.returns
returns c = search (reach-read, rules)
