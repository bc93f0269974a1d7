-- `number_in`: the digits so far write n.
use Rattle.decimals.proofs.NumberLaws.{empty-text, some-text, digits-bad, written_none, written-more, written_all, nothing_written, digit-least, digit-most}
use Rattle.decimals.proofs.number.number_in.Goals as goal

pub returns-then-is_empty : goal.returns-then-is_empty
returns-then-is_empty c = search (nothing_written, empty-text)

pub loop-c-init : goal.loop-c-init
loop-c-init c = search (written_none, some-text)

pub returns-then-not-is_digit : goal.returns-then-not-is_digit
returns-then-not-is_digit c = search (nothing_written, digits-bad)

pub with_digit-n-requires : goal.with_digit-n-requires
with_digit-n-requires c = record { small = search; low = search (digit-least); high = search (digit-most) }

pub loop-c-preserved : goal.loop-c-preserved
loop-c-preserved c = search (written-more)

pub returns : goal.returns
returns c = search (written_all)
