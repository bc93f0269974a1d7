-- `Search::past_item`: the passes that are skipped, and how far they go.
use Rattle.find.proofs.DescentLaws.{past-item}
use Rattle.find.proofs.descent.Search.past_item.Goals as goal

pub returns : goal.returns
returns c =
    past-item c.args.self.now c.pass_of-pass.ensures c.skip-skipped.ensures c.item_extent-one.ensures (rw c.from.ensures at c.repeated_extent.ensures) c.joined_extents-extent.ensures
