-- `wide::wide_in`: the digits so far write n.
use Rattle.decimals.proofs.NumberLaws.{empty-text, some-text, digits-bad, digit-least, digit-most}
use Rattle.decimals.proofs.WideLaws.{wrote_none, nothing-wide, wide-over, wide-more, wide-all}
use Rattle.decimals.proofs.wide.wide_in.Goals as goal

pub returns-then-is_empty : goal.returns-then-is_empty
returns-then-is_empty c = search (nothing-wide, empty-text)

pub loop-c-init : goal.loop-c-init
loop-c-init c = search (wrote_none, some-text)

pub returns-then-not-is_digit : goal.returns-then-not-is_digit
returns-then-not-is_digit c = search (nothing-wide, digits-bad)

pub wide_digit-requires : goal.wide_digit-requires
wide_digit-requires c = record { low = search (digit-least); high = search (digit-most) }

pub returns-in_err-n : goal.returns-in_err-n
returns-in_err-n c = rw c.from_residual.ensures (wide-over c.loop-c.invariant (search) c.in_err-n.ensures)

pub loop-c-preserved : goal.loop-c-preserved
loop-c-preserved c = wide-more c.loop-c.invariant (search) c.is_digit.ensures (search) c.in_ok-n.ensures

pub returns : goal.returns
returns c = search (wide-all)
