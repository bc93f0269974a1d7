-- `stateset::only`: a power from the word's width on leaves nothing in it.
use Rattle.stateset.proofs.Sets.{pow-high}
use Rattle.stateset.proofs.only.Goals as goal

pub returns-else-p-lt64 : goal.returns-else-p-lt64
returns-else-p-lt64 c = pow-high 64 c.args.p c.if-p-lt64.false
