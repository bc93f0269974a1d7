-- `AtomCursor::byte`: both ways of the test.
use Rattle.brackets.proofs.Elements.{byte-found}
use Rattle.brackets.proofs.cursor.AtomCursor.byte.Goals as goal

pub returns-then-a-first : goal.returns-then-a-first
returns-then-a-first c = search byte-found
