-- `depths::depth_asked`: what is told of the part that was read is told of the whole.
use borrow.Author.Rules.{rules}
use Rattle.survey.proofs.DepthLaws.{depths-read, depths_none}
use Rattle.survey.proofs.depths.depth_asked.Goals as goal

pub returns-in_err-m : goal.returns-in_err-m
returns-in_err-m c = search (depths_none, rules)

pub returns : goal.returns
returns c = search (depths-read, rules)
