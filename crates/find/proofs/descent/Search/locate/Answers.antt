-- `Search::locate`: the last line, or the one that a line end closes.
use mathlib.Core.Path.{ap}
use mathlib.Core.Bool.{not}
use Rattle.find.proofs.LocateLaws.{locate-low, locate-words, locate-last, locate-closed}
use borrow.Author.Rules.{rules}
use Rattle.find.proofs.descent.Search.locate.Goals as goal

pub run_of-requires : goal.run_of-requires
run_of-requires c = search (locate-low)

pub overflow_mul-self : goal.overflow_mul-self
overflow_mul-self c = search (locate-words)

pub returns-then-not-closes : goal.returns-then-not-closes
returns-then-not-closes c =
    locate-last c.requires c.start-first.ensures c.run_of.ensures c.joined-run.ensures c.closes.ensures (search rules) (ap not c.if-not-closes.true) c.load_extent-whole.ensures c.min.ensures

pub returns : goal.returns
returns c =
    locate-closed c.requires c.start-first.ensures c.run_of.ensures c.joined-run.ensures c.closes.ensures (search rules) (ap not c.if-not-closes.false) c.descend-at.ensures c.saturating_sub-keys.ensures c.min-2.ensures
