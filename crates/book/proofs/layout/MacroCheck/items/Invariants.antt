-- `MacroCheck::items`. Invariant: reading the items that are left, from here, ends as reading all of them does.
use Prim.Native.Nat.{◌-◌, ◌≤◌}
use mathlib.Core.Path.{◌≡◌}
use lib.ListN.{length, drop}
use Rattle.book.specs.Reading.{read_items}
use Rattle.book.specs.Promises.{walk_of}
use Rattle.book.proofs.layout.MacroCheck.items.Given as goal

abbrev pub invariant-loop : goal.invariant-loop
invariant-loop l =
    (l.at ≤ length l.self.bytes.now)
    × (walk_of (length l.self.bytes.now) (read_items l.self.version l.self.n (l.count - l.counter) (drop l.at l.self.bytes.now)) ≡ walk_of (length l.self.bytes.now) (read_items l.self.version l.self.n l.count (drop l.start l.self.bytes.now)))
