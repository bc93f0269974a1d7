-- The measure of `enter` and `enter_items` goes by the macro's number: calls go to lower ones. Invariant of the loop: behind what was
-- listed stands what the first k items enter.
use Prim.Native.Nat.{◌+◌, ◌*◌}
use mathlib.Core.Path.{◌≡◌}
use lib.ListN.{take}
use Rattle.book.specs.Reading.{macros_in}
use Rattle.reach.proofs.Walks.{Within}
use Rattle.reach.proofs.listing.Walker.+walk.Given as goal

abbrev pub decreases-enter : goal.decreases-enter
decreases-enter l = 2 * l.i + 1

abbrev pub decreases-enter_items : goal.decreases-enter_items
decreases-enter_items l = 2 * l.i

abbrev pub invariant-enter_items-loop-k : goal.invariant-enter_items-loop-k
invariant-enter_items-loop-k l =
    record {
      same : l.self.list.ghost_name ≡ l.initial.self.list.ghost_name;
      book : l.self.book ≡ l.initial.self.book;
      walk : Within (macros_in l.initial.self.book.now.bytes.now) l.i (take l.initial.self.listed l.initial.self.list.now) l.initial.self.list.now l.k l.self.list.now l.self.marks l.self.listed;
    }
