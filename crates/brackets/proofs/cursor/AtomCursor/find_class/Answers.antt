-- `AtomCursor::find_class`. Invariant: the classes from c on decide as all twelve do.
use Rattle.brackets.proofs.ClassTables.{rows-twelve}
use Rattle.brackets.proofs.Classes.{find-behind, find-end, find-found, find-on, rest-whole}
use Rattle.brackets.proofs.cursor.AtomCursor.find_class.Goals as goal

pub returns-in_err-rest : goal.returns-in_err-rest
returns-in_err-rest c = rw c.from_residual.ensures (find-behind _ _ c.in_err-rest.ensures.lookup.0)

pub returns-then-starts_with : goal.returns-then-starts_with
returns-then-starts_with c =
    rw (rest-whole _ _ _ c.in_ok-rest.ensures.lookup.0.2)
    (find-found _ _ c.loop-c.invariant _ c.classes-class-items.ensures _ c.loop-c-test.true _ c.starts_with.ensures.value c.if-starts_with.true _ _ c.past.ensures)

pub loop-c-preserved : goal.loop-c-preserved
loop-c-preserved c = find-on _ _ c.loop-c.invariant _ c.classes-class-items.ensures _ c.loop-c-test.true _ c.starts_with.ensures.value c.if-starts_with.false

pub returns : goal.returns
returns c = rw (rest-whole _ _ _ c.in_ok-rest.ensures.lookup.0.2) (find-end _ _ c.loop-c.invariant _ (rw (rows-twelve _ c.classes-class-items.ensures) at c.loop-c-test.false))
