-- `stateset::within`: a mask of s ones.
use borrow.Author.Rules.{rules}
use Rattle.stateset.proofs.Sets.{masked, word-whole}
use Rattle.stateset.proofs.within.Goals as goal

pub returns-then-s-lt64 : goal.returns-then-s-lt64
returns-then-s-lt64 c = search (masked)

pub returns-else-s-lt64 : goal.returns-else-s-lt64
returns-else-s-lt64 c = search (word-whole, rules)
