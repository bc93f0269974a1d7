-- `span::empty_span`: each state has a row of its own.
use borrow.Author.Rules.{rules}
use Rattle.spans.proofs.RowLaws.{own_row}
use Rattle.spans.proofs.Made.{empty-made}
use Rattle.spans.proofs.span.empty_span.Goals as goal

pub returns : goal.returns
returns c =
    empty-made c.args.s c.new-states.ensures (c.each_row-rows.ensures _ (λ q x h r. own_row c.new-states.result.count q h c.new-states.result.few (search rules))) c.open_span.ensures
