-- `AtomCursor::range`: both ways of the test.
use Rattle.brackets.proofs.Elements.{range-found, range-fault}
use Rattle.brackets.proofs.cursor.AtomCursor.range.Goals as goal

pub returns-then-first-a : goal.returns-then-first-a
returns-then-first-a c = search range-found

pub returns : goal.returns
returns c = search range-fault
