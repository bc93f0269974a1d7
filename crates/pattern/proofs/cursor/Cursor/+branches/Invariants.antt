-- The measure is the number of bytes left.
use Prim.Native.Nat.{◌-◌}
use lib.ListN.{length}
use Rattle.pattern.proofs.cursor.Cursor.+branches.Given as goal

abbrev pub decreases-branches : goal.decreases-branches
decreases-branches l = length l.self.bytes.now - l.self.at
