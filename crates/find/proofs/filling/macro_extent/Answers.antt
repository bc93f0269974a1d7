-- `filling::macro_extent`: what is kept is that of the items so far.
use Rattle.std.proofs.lemmas.Option.{slice_get-get_or}
use Rattle.find.proofs.FillLaws.{items-start, items-on, items-done}
use Rattle.find.proofs.filling.macro_extent.Goals as goal

pub loop-next-init : goal.loop-next-init
loop-next-init c = search (items-start)

pub loop-next-preserved : goal.loop-next-preserved
loop-next-preserved c =
    items-on c.requires (rw c.items-items.ensures at c.as_slice-next-items.ensures) _ c.loop-next.invariant (slice_get-get_or _ _ _ c.loop-next-test.true) c.item_extent.ensures c.from.ensures c.repeated_extent-passes.ensures c.joined_extents-all.ensures

pub returns : goal.returns
returns c =
    items-done c.requires (rw c.items-items.ensures at c.as_slice-next-items.ensures) _ c.loop-next.invariant c.loop-next-test.false
