-- `times_at`: once in version 1, else the two bytes behind the item's number.
use Rattle.book.proofs.ItemLaws.{times-first, times-second, times-there}
use Rattle.book.proofs.item.times_at.Goals as goal

pub returns-then-version-eq1 : goal.returns-then-version-eq1
returns-then-version-eq1 c = search (times-first)

pub le16_at-requires : goal.le16_at-requires
le16_at-requires c = search (times-there)

pub returns : goal.returns
returns c = search (times-second)
