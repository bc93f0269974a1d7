-- `width_of`: two bytes in version 1, else four.
use Rattle.book.proofs.ItemLaws.{width_one, width-other}
use Rattle.book.proofs.version.width_of.Goals as goal

pub returns-then-version-eq1 : goal.returns-then-version-eq1
returns-then-version-eq1 c = search (width_one)

pub returns-else-version-eq1 : goal.returns-else-version-eq1
returns-else-version-eq1 c = search (width-other)
