-- `AtomCursor::find_class`. Invariant: the classes from c on decide as all twelve do.
use Prim.Native.Nat.{◌-◌}
use mathlib.Core.Path.{◌≡◌}
use Rattle.brackets.specs.Brackets.{find_class}
use Rattle.brackets.proofs.cursor.AtomCursor.find_class.Given as goal

abbrev pub invariant-loop-c : goal.invariant-loop-c
invariant-loop-c l = find_class (12 - l.c) l.c l.rest ≡ find_class 12 0 l.rest
