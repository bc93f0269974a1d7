-- No two refusals have the same number, and none has 0.
use Prim.Native.Nat.{◌≤◌}
use native.Mathlib.Omega.{arith}
use mathlib.Core.Path.{◌≡◌}
use Rattle.refusal.specs.declared.Refusal.{Refusal}
use Rattle.refusal.specs.Number.{number}

-- no two refusals have the same number
pub number-injective : (r s : Refusal) → number r ≡ number s → r ≡ s
number-injective r s e = grind arith

-- and none has 0, which stands for an answer that is no refusal
pub number-positive : (r : Refusal) → 1 ≤ number r
number-positive r = grind arith
