-- `shape::union_if`: a union where a test holds.
use Rattle.pattern.proofs.shape.union_if.Goals as goal

pub returns-then-t : goal.returns-then-t
returns-then-t c = rw c.if-t.true c.union.ensures
