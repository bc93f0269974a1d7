-- `layout_macros`. Invariant: n macros were read, their offsets stand in the table, and reading goes on behind the last.
use Prim.Native.Nat.{◌≤◌}
use lib.ListN.{length}
use Rattle.book.proofs.Laid.{Laid}
use Rattle.book.proofs.layout.layout_macros.Given as goal

abbrev pub invariant-loop-n : goal.invariant-loop-n
invariant-loop-n l = (l.at ≤ length l.s) × Laid l.version l.s l.count l.offsets l.at l.n
