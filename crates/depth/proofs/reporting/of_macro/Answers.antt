-- `reporting::of_macro`: what is kept is that of the items so far.
use Rattle.depth.proofs.BookLaws.{all-sized, item-ready, item-stands, items-done, items-none, items-on, passes-sized, this-sized}
use Rattle.depth.proofs.reporting.of_macro.Goals as goal

pub loop-next-init : goal.loop-next-init
loop-next-init c = search (items-none)

pub of_item-requires : goal.of_item-requires
of_item-requires c = search (item-ready)

pub repeated-passes-requires : goal.repeated-passes-requires
repeated-passes-requires c = record { sized = search (this-sized); some = search (item-stands) }

pub followed_by-all-requires : goal.followed_by-all-requires
followed_by-all-requires c = record { first = search (all-sized); second = search (passes-sized) }

pub loop-next-preserved : goal.loop-next-preserved
loop-next-preserved c = search (items-on)

pub returns : goal.returns
returns c = search (items-done)
