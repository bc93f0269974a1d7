-- `AtomCursor::class`: each way out is a case of reading a class.
use Rattle.brackets.proofs.Elements.{class-near, class-range, class-found}
use Rattle.brackets.proofs.cursor.AtomCursor.class.Goals as goal

pub starts_range-requires : goal.starts_range-requires
starts_range-requires c = search (class-near, c.in_ok-c.ensures)

pub returns-then-starts_range : goal.returns-then-starts_range
returns-then-starts_range c = search (class-range, c.in_ok-c.ensures)

pub returns : goal.returns
returns c = search (class-found, c.in_ok-c.ensures)
