-- `add_class`. Invariant: the ranges from this one on add what is left of the class.
use mathlib.Core.Path.{◌≡◌}
use Rattle.brackets.specs.Form.{class}
use Rattle.brackets.specs.Answers.{map_with}
use Rattle.brackets.specs.Promises.{with_element}
use Rattle.brackets.proofs.Ranges.{added_from}
use Rattle.brackets.proofs.set.add_class.Given as goal

abbrev pub invariant-loop-first : goal.invariant-loop-first
invariant-loop-first l = added_from l.c l.first-index l.set ≡ map_with (with_element (class l.c)) 0 l.initial.set
