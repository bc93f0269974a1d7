-- `items::after_passes`: once, or one pass repeated and joined.
use Rattle.counter.proofs.ItemLaws.{passes-one, passes-small, passes-more}
use Rattle.counter.proofs.items.after_passes.Goals as goal

pub returns-then-next-eq1 : goal.returns-then-next-eq1
returns-then-next-eq1 c = search (passes-one)

pub after_item-pass-requires : goal.after_item-pass-requires
after_item-pass-requires c = search (passes-small)

pub returns : goal.returns
returns c = search (passes-more)
