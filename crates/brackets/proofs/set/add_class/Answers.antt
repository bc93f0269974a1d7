-- `add_class`. Invariant: the ranges from this one on add what is left of the class.
use Rattle.brackets.proofs.ClassTables.{rows-twelve, row-ranges, row-fits}
use Rattle.brackets.proofs.Ranges.{ranges-first, ranges-on, ranges-end}
use Rattle.brackets.proofs.set.add_class.Goals as goal

pub loop-first-init : goal.loop-first-init
loop-first-init c = search ranges-first

pub bounds-classes-c : goal.bounds-classes-c
bounds-classes-c c = rw (rows-twelve _ c.classes.ensures) c.requires

pub offset_bounds-first-items-first-index : goal.offset_bounds-first-items-first-index
offset_bounds-first-items-first-index c = row-fits _ c.classes.ensures _ _ c.requires _ c.loop-first-test.true

pub loop-first-preserved : goal.loop-first-preserved
loop-first-preserved c = search (ranges-on, row-ranges)

pub returns : goal.returns
returns c = search (ranges-end, row-ranges)
