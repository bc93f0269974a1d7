-- `write_item` and `write_macro`, which call each other. The measure goes by the macro's number: calls go to lower ones. Invariants: the
-- passes that are done are written; so are the first k items.
use Prim.Native.Nat.{◌+◌, ◌*◌}
use Rattle.runs.specs.Kept.{times}
use Rattle.book.specs.Expansion.{expansion, keys_of}
use Rattle.book.specs.Reading.{macros_in}
use Rattle.find.proofs.WriteLaws as laws
use Rattle.find.proofs.writing.+write_item_write_macro.Given as goal

abbrev pub decreases-write_item : goal.decreases-write_item
decreases-write_item l = laws.depth_of l.next.item

abbrev pub decreases-write_macro : goal.decreases-write_macro
decreases-write_macro l = 2 * l.i + 1

abbrev pub invariant-write_item-loop : goal.invariant-write_item-loop
invariant-write_item-loop l = laws.Wrote l.fn.pen l.fn.buffer (times l.counter (keys_of (λ j. expansion (macros_in l.book.bytes.now) j) l.next.item)) l.now l.buffer

abbrev pub invariant-write_macro-loop-k : goal.invariant-write_macro-loop-k
invariant-write_macro-loop-k l = laws.Wrote l.fn.pen l.fn.buffer (laws.up_to l.book.bytes.now l.book.offsets l.i l.k) l.now l.buffer
