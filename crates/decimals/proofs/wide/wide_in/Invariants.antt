-- `wide::wide_in`: the digits so far write n.
use Rattle.decimals.proofs.WideLaws.{Wrote}
use Rattle.decimals.proofs.wide.wide_in.Given as goal

abbrev pub invariant-loop-c : goal.invariant-loop-c
invariant-loop-c l = Wrote l.text l.c-index l.n
