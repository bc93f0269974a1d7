-- `passes::skip`, which calls itself. The measure: the part grows, and is never larger than all passes.
use Prim.Native.Nat.{ℕ}
use Rattle.find.proofs.PassLaws.{Larger, larger-none, larger-skip, skip-part}
use Rattle.find.proofs.passes.+skip.Goals as goal
use Rattle.find.proofs.passes.+skip.Goals.{Joined-most-size, then-most-size, else-most-size}

larger : (t : ℕ) (c : Joined-most-size t) → Larger c.args.before c.args.part c.args.size c.args.most c.args.k c.if-most-size.larger
larger t c =
    elim c.if-most-size.branch [
      | then-most-size w ↦ rw w.larger-is (larger-none c.ranges.k w.if-most-size.true)
      | else-most-size w ↦ rw w.larger-is (larger-skip c.ranges.k w.joined.ensures w.skip-larger.ensures)
    ]

pub with_part-requires : goal.with_part-requires
with_part-requires t c = (larger t c).within

pub returns : goal.returns
returns t c = skip-part c.ranges.k (larger t (goal.at.returns t c).Joined-most-size) c.with_part.ensures
