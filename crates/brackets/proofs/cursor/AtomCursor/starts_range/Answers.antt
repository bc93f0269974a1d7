-- `AtomCursor::starts_range`: both bytes.
use Rattle.brackets.proofs.Elements.{range-starts}
use Rattle.brackets.proofs.cursor.AtomCursor.starts_range.Goals as goal

pub returns : goal.returns
returns c = search range-starts
