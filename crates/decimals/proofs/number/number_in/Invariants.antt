-- `number_in`: the digits so far write n.
use Rattle.decimals.proofs.NumberLaws.{Written}
use Rattle.decimals.proofs.number.number_in.Given as goal

abbrev pub invariant-loop-c : goal.invariant-loop-c
invariant-loop-c l = Written l.text l.c-index l.n
