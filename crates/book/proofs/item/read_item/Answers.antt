-- `read_item`: each way out is a case of what stands at the place.
use native.Mathlib.Omega.{arith}
use mathlib.Core.Path.{ap, ◌∙◌}
use Rattle.book.specs.Reading.{item_of}
use Rattle.book.proofs.ItemLaws.{code-short, code-cut, code_fits, code-there, code-found}
use Rattle.book.proofs.item.read_item.Goals as goal

pub returns-then-s-width : goal.returns-then-s-width
returns-then-s-width c = search (code-short)

pub returns-then-s-width-2 : goal.returns-then-s-width-2
returns-then-s-width-2 c = search (code-cut)

pub le16_at-requires : goal.le16_at-requires
le16_at-requires c = search (code-there)

pub times_at-times-requires : goal.times_at-times-requires
times_at-times-requires c = search (code_fits)

pub returns : goal.returns
returns c = code-found c.args.s.now c.args.at c.args.version _ c.width_of-width.ensures (omega arith) (omega arith) (c.item_of-item.ensures ∙ ap item_of c.le16_at.ensures) c.times_at-times.ensures
