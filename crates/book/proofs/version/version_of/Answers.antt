-- `version::version_of`: the two bytes behind the mark.
use Rattle.book.proofs.LayoutLaws.{version-short, version-told}
use Rattle.book.proofs.version.version_of.Goals as goal

pub returns-then-book-lt5 : goal.returns-then-book-lt5
returns-then-book-lt5 c = search (version-short)

pub returns : goal.returns
returns c = search (version-told)
