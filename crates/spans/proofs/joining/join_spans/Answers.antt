-- `joining::join_spans`: by what the two runs end.
use Rattle.spans.proofs.Made.{join-made, join-both, join-ending, join-opening, join-whole}
use Rattle.spans.proofs.joining.join_spans.Goals as goal
use Rattle.spans.proofs.joining.join_spans.Goals.{in-true-true, in-true-false, in-false-true, in-false-false}

pub returns : goal.returns
returns c =
    join-made c.args.a c.args.b c.new-states.ensures
    (elim c.if-a.branch [
      | in-true-true w ↦ rw w.span-is (search (join-both))
      | in-true-false w ↦ rw w.span-is (search (join-ending))
      | in-false-true w ↦ rw w.span-is (search (join-opening))
      | in-false-false w ↦ rw w.span-is (search (join-whole))
    ])
    c.closes_across.ensures
