-- `facts::items_below`: the items of the first i macros are counted.
use borrow.Author.Rules.{rules}
use Rattle.survey.proofs.FactLaws.{summed-none, summed-more, summed-fits, summed-all}
use Rattle.survey.proofs.facts.items_below.Goals as goal

pub loop-i-init : goal.loop-i-init
loop-i-init c = search (summed-none, rules)

pub overflow_add-sum : goal.overflow_add-sum
overflow_add-sum c = search (summed-fits, rules)

pub loop-i-preserved : goal.loop-i-preserved
loop-i-preserved c = search (summed-more, rules)

pub returns : goal.returns
returns c = search (summed-all, rules)
