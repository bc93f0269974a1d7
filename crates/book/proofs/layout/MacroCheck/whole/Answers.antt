-- `MacroCheck::whole`: each way out is a case of reading one macro.
use Rattle.book.proofs.Walks.{macro-cut, macro-count, macro-items}
use Rattle.book.proofs.layout.MacroCheck.whole.Goals as goal

pub returns-then-self-at-lt2 : goal.returns-then-self-at-lt2
returns-then-self-at-lt2 c = search macro-cut

pub returns-then-not-count : goal.returns-then-not-count
returns-then-not-count c = search macro-count

pub returns : goal.returns
returns c = search macro-items
