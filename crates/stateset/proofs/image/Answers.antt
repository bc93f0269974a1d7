-- `stateset::image`: what is gathered and the image of what is left make the set's image. The measure is what is left.
use native.Mathlib.Omega.{arith}
use native.Mathlib.Nat.{lt_of_le_of_lt}
use mathlib.Core.Path.{sym, ◌∙◌}
use lib.Bits.{and_le_r}
use lib.Count.{count_trailing_zeros}
use borrow.Author.Rules.{rules}
use Rattle.stateset.proofs.Lowest.{lowest-lt, less-lt}
use Rattle.stateset.proofs.Images.{image-mask, image-lowest, image-done}
use Rattle.stateset.proofs.image.Goals as goal

pub loop-y-init : goal.loop-y-init
loop-y-init c = let a = c.args in (lt_of_le_of_lt (and_le_r a.set _) (omega arith), image-mask a.rows.now 32 a.set (omega arith))

-- the lowest member has a row
pub bounds-rows-p : goal.bounds-rows-p
bounds-rows-p c = lowest-lt 64 32 c.loop-y.y (omega arith) (omega arith) c.loop-y.invariant.0

pub loop-y-preserved : goal.loop-y-preserved
loop-y-preserved c =
    let l = c.loop-y in
    let t = count_trailing_zeros 64 l.y in
    let low = lowest-lt 64 32 l.y (omega arith) (omega arith) l.invariant.0 in (
      omega (arith, less-lt l.y (omega arith)),
      image-lowest c.args.rows.now 64 l.acc l.y (omega arith) (omega arith) (omega (arith, low)) (search rules) ∙ l.invariant.1,
    )

pub returns : goal.returns
returns c =
    let l = c.loop-y in
    sym (image-done c.args.rows.now l.acc l.y (omega arith)) ∙ l.invariant.1
