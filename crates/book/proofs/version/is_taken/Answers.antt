-- `is_taken`: the two versions.
use Rattle.book.proofs.ItemLaws.{taken-told}
use Rattle.book.proofs.version.is_taken.Goals as goal

pub returns : goal.returns
returns c = search (taken-told)
