-- `reporting::of_macro`: what is kept is that of the items so far.
use mathlib.Core.Path.{◌≡◌}
use lib.ListN.{take}
use Rattle.book.specs.Reading.{macros_in}
use Rattle.depth.proofs.BookLaws.{kept_items}
use Rattle.depth.proofs.reporting.of_macro.Given as goal

abbrev pub invariant-loop-next : goal.invariant-loop-next
invariant-loop-next l = l.all ≡ kept_items l.keys (macros_in l.book.bytes.now) (take l.next-index l.next-items)
