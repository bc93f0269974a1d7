-- `Search::stop_in`: the line has not ended in the items so far.
use Rattle.std.proofs.lemmas.Option.{slice_get-get_or}
use Rattle.find.proofs.DescentLaws.{items-first, items-over, items-next, items-stop}
use Rattle.find.proofs.descent.Search.stop_in.Goals as goal

pub loop-next-init : goal.loop-next-init
loop-next-init c = search (items-first)

pub returns-then-past-next : goal.returns-then-past-next
returns-then-past-next c =
    items-stop _ c.loop-next.invariant (slice_get-get_or _ _ _ c.loop-next-test.true) c.past_item-past.ensures c.if-past-next.true

pub loop-next-preserved : goal.loop-next-preserved
loop-next-preserved c =
    items-next _ c.loop-next.invariant (slice_get-get_or _ _ _ c.loop-next-test.true) c.past_item-past.ensures c.if-past-next.false

pub returns : goal.returns
returns c = items-over _ c.loop-next.invariant c.loop-next-test.false
