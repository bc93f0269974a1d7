-- `stateset::size`: the digits 1 of a word are as many as its members.
use native.Mathlib.Omega.{arith}
use Rattle.stateset.proofs.Counts.{ones-members}
use Rattle.stateset.proofs.size.Goals as goal

pub returns : goal.returns
returns c = ones-members 64 c.args.a (omega arith)
