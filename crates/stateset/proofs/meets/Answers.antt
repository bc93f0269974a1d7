-- `stateset::meets`: two sets have a member in common exactly if their intersection is not empty.
use native.Mathlib.Omega.{arith}
use Rattle.stateset.proofs.Common.{common-and}
use Rattle.stateset.proofs.meets.Goals as goal

pub returns : goal.returns
returns c = common-and 64 c.args.a c.args.b (omega arith) (omega arith)
