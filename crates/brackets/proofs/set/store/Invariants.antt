-- `store`. Invariant: the words of the keys below k are as the set says.
use mathlib.Core.Path.{◌≡◌}
use Rattle.brackets.specs.Promises.{with_key}
use Rattle.brackets.proofs.Entries.{partly}
use Rattle.brackets.proofs.set.store.Given as goal

abbrev pub invariant-loop-k : goal.invariant-loop-k
invariant-loop-k l = l.keys ≡ partly (with_key l.case l.set l.negated l.states) l.k l.initial.keys
