-- The cycle of readers. The measure is a bound on how deep they call each other; the bytes left fall.
use Prim.Native.Nat.{◌-◌}
use Rattle.pattern.specs.Reader.{Mode}
use Rattle.pattern.specs.Cycle.{room}
use lib.ListN.{length}
use Rattle.pattern.proofs.cursor.Cursor.+alternatives_branch_group_piece.Given as goal

abbrev pub decreases-alternatives : goal.decreases-alternatives
decreases-alternatives l = room Mode.alts (length l.self.bytes.now - l.self.at)

abbrev pub decreases-branch : goal.decreases-branch
decreases-branch l = room Mode.branch (length l.self.bytes.now - l.self.at)

abbrev pub decreases-group : goal.decreases-group
decreases-group l = room Mode.group (length l.self.bytes.now - l.self.at)

abbrev pub decreases-piece : goal.decreases-piece
decreases-piece l = room Mode.piece (length l.self.bytes.now - l.self.at)
