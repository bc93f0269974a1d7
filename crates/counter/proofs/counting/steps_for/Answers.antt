-- `steps_for`: those of version 1, else 0.
use Rattle.counter.proofs.BookLaws.{steps-one, steps-none}
use Rattle.counter.proofs.counting.steps_for.Goals as goal

pub returns-then-version-eq1 : goal.returns-then-version-eq1
returns-then-version-eq1 c = search (steps-one)

pub returns-else-version-eq1 : goal.returns-else-version-eq1
returns-else-version-eq1 c = search (steps-none)
