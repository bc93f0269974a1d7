-- It is safe and ends: the keys left fall.
use Prim.Native.Nat.{◌-◌}
use Rattle.pattern_cases.proofs.show.keyed.Given as goal

abbrev pub invariant-loop-k : goal.invariant-loop-k
invariant-loop-k l = Unit {0}

abbrev pub decreases-loop-k : goal.decreases-loop-k
decreases-loop-k l = 256 - l.k
