-- `write_item` and `write_macro`, which call each other. The measure goes by the macro's number: calls go to lower ones. Invariants: the
-- passes that are done are written; so are the first k items.
use native.Mathlib.Omega.{arith}
use lib.Seq.{take_all}
use mathlib.Core.Path.{sym, ap, ◌∙◌}
use borrow.Author.Rules.{rules}
use Rattle.book.specs.Expansion.{expansion, keys_of}
use Rattle.book.specs.Reading.{macros_in}
use Rattle.book.proofs.MacroItems.{decoded-few, items-end}
use Rattle.find.proofs.WriteLaws as laws
use Rattle.find.proofs.writing.+write_item_write_macro.Goals as goal
use Rattle.find.proofs.writing.+write_item_write_macro.Goals.{write_item-in-Key, write_item-in-Call}

pub write_item-returns-then-pen-eq0 : goal.write_item-returns-then-pen-eq0
write_item-returns-then-pen-eq0 t c = record { behind = search (laws.done-behind); written = search (laws.done-written) }

pub write_item-overflow_mul-now : goal.write_item-overflow_mul-now
write_item-overflow_mul-now t c = search (laws.skipped-fits)

pub write_item-overflow_sub-now : goal.write_item-overflow_sub-now
write_item-overflow_sub-now t c = search (laws.skipped-within)

pub write_item-loop-init : goal.write_item-loop-init
write_item-loop-init t c = laws.passing-first c.requires c.if-pen-eq0.false (search rules) c.item_extent-extent.ensures _ _ c.passes_before-skipped.ensures

pub write_item-returns-then-now-eq0 : goal.write_item-returns-then-now-eq0
write_item-returns-then-now-eq0 t c =
    let wrote = laws.passing-done c.requires _ c.loop.invariant c.args.next.times (omega (arith, c.from-all.ensures)) c.if-now-eq0.true in
    record { behind = wrote.behind; written = wrote.written }

pub write_item-write_key-now-requires : goal.write_item-write_key-now-requires
write_item-write_key-now-requires t c = laws.passing-room c.requires _ c.loop.invariant

pub write_item-write_macro-now-requires : goal.write_item-write_macro-now-requires
write_item-write_macro-now-requires t c = (search (laws.call-low), laws.call_fits c.requires _ c.loop.invariant c.in-Call.is)

pub write_item-loop-preserved : goal.write_item-loop-preserved
write_item-loop-preserved t c =
    let keys = keys_of (λ j. expansion (macros_in c.args.book.now.bytes.now) j) in
    elim c.match-next.branch [
      | write_item-in-Key w ↦
          rw (w.now-is, w.buffer-is) (laws.passing-on c.requires _ c.loop.invariant (sym (ap keys w.in-Key.is)) w.write_key-now.ensures.behind w.write_key-now.ensures.written)
      | write_item-in-Call w ↦
          rw (w.now-is, w.buffer-is) (laws.passing-on c.requires _ c.loop.invariant (sym (ap keys w.in-Call.is)) w.write_macro-now.ensures.behind w.write_macro-now.ensures.written)
    ]

pub write_item-returns : goal.write_item-returns
write_item-returns t c =
    let wrote = laws.passing-whole c.requires _ c.loop.invariant c.args.next.times (omega (arith, c.from-all.ensures, laws.skipped-few _ _ _ _ c.passes_before-skipped.ensures)) in
    record { behind = wrote.behind; written = wrote.written }

pub write_macro-loop-k-init : goal.write_macro-loop-k-init
write_macro-loop-k-init t c = search (laws.items-first)

pub write_macro-returns-in_default : goal.write_macro-returns-in_default
write_macro-returns-in_default t c =
    let wrote = laws.items-all c.requires _ c.loop-k.invariant (items-end _ _ (sym c.item.ensures ∙ c.in_default.is)) in
    record { behind = wrote.behind; written = wrote.written }

pub write_macro-write_item-now-requires : goal.write_macro-write_item-now-requires
write_macro-write_item-now-requires t c =
    (laws.item-low c.requires _ c.loop-k.invariant (sym c.item.ensures ∙ c.in-Some.is) (search rules), laws.item-fits c.requires _ c.loop-k.invariant (sym c.item.ensures ∙ c.in-Some.is))

pub write_macro-loop-k-preserved : goal.write_macro-loop-k-preserved
write_macro-loop-k-preserved t c =
    laws.items-on c.requires _ c.loop-k.invariant (sym c.item.ensures ∙ c.in-Some.is) c.write_item-now.ensures.behind c.write_item-now.ensures.written

pub write_macro-returns : goal.write_macro-returns
write_macro-returns t c =
    let wrote = laws.items-all c.requires _ c.loop-k.invariant (take_all _ _ (omega (arith, decoded-few c.args.book.now.bytes.now c.args.book.now.offsets c.args.i))) in
    record { behind = wrote.behind; written = wrote.written }
