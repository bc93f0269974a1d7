-- `add_range`. Invariant: the entries below b are as the range says.
use mathlib.Core.Path.{◌≡◌}
use Rattle.brackets.specs.Form.{range}
use Rattle.brackets.specs.Promises.{with_element}
use Rattle.brackets.proofs.Entries.{partly}
use Rattle.brackets.proofs.set.add_range.Given as goal

abbrev pub invariant-loop-b : goal.invariant-loop-b
invariant-loop-b l = l.set ≡ partly (with_element (range l.first l.last)) l.b l.initial.set
