-- `add_range`. Invariant: the entries below b are as the range says.
use Rattle.brackets.proofs.Adding.{range-first, range-on, range_last, range-whole}
use Rattle.brackets.proofs.set.add_range.Goals as goal

pub loop-b-init : goal.loop-b-init
loop-b-init c = search range-first

pub loop-b-preserved : goal.loop-b-preserved
loop-b-preserved c = search range-on

pub returns : goal.returns
returns c = search range_last

pub returns-2 : goal.returns-2
returns-2 c = search range-whole
