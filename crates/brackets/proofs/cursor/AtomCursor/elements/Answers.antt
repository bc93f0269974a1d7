-- `AtomCursor::elements`. Invariant: what is done from here is done from the start.
use Rattle.brackets.proofs.Bracketed.{going-first, going_end, going-closed, going-fault, going_on}
use Rattle.brackets.proofs.Taken.{found-known, found-less}
use Rattle.brackets.proofs.cursor.AtomCursor.elements.Goals as goal

pub loop-here-init : goal.loop-here-init
loop-here-init c = search going-first

pub returns-then-first-peek : goal.returns-then-first-peek
returns-then-first-peek c = search going-closed

pub add_element-requires : goal.add_element-requires
add_element-requires c = search (found-known, c.in_ok-e.ensures)

pub returns-in_err-e : goal.returns-in_err-e
returns-in_err-e c = rw c.from_residual.ensures (search (going-fault, c.in_err-e.ensures))

pub loop-here-smaller : goal.loop-here-smaller
loop-here-smaller c = search (found-less, c.in_ok-e.ensures)

pub loop-here-preserved : goal.loop-here-preserved
loop-here-preserved c = search (going_on, c.in_ok-e.ensures)

pub returns : goal.returns
returns c = search going_end
