-- `Unmatched::repeated`: of a run that does not become too long, one sort of keys without a partner becomes more.
use Prim.Native.Nat.{◌≤◌}
use native.Mathlib.Omega.{arith}
use Rattle.depth.specs.Answer.{longest}
use Rattle.depth.proofs.CodeLaws.{passes-fit}
use Rattle.depth.proofs.unmatched.Unmatched.repeated.Goals as goal

pub returns : goal.returns
returns c = let short : c.saturating_mul-whole.result ≤ longest = omega arith in search (passes-fit)
