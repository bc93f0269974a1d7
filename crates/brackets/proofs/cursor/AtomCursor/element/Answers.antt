-- `AtomCursor::element`: which of the three it is.
use Rattle.brackets.proofs.Elements.{element-class, element-opens, element-range, element-byte}
use Rattle.brackets.proofs.cursor.AtomCursor.element.Goals as goal

pub returns-then-a-b : goal.returns-then-a-b
returns-then-a-b c = search element-class

pub returns-then-a-b-2 : goal.returns-then-a-b-2
returns-then-a-b-2 c = search element-opens

pub returns-then-starts_range : goal.returns-then-starts_range
returns-then-starts_range c = search element-range

pub returns : goal.returns
returns c = search element-byte
