-- `depths::depth_line`: by the case of the answer.
use borrow.Author.Rules.{rules}
use Rattle.output.proofs.WholeLaws.{depth-lines, depth-refused}
use Rattle.output.proofs.depths.depth_line.Goals as goal

pub returns-in-Ok : goal.returns-in-Ok
returns-in-Ok c = search (depth-lines)

pub returns-in-Err : goal.returns-in-Err
returns-in-Err c = depth-refused _ c.in-Err.is (c.refused_line.ensures (search rules))
