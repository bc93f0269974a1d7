-- `list::reached_lines`: by the case of the answer.
use native.Mathlib.Omega.{arith}
use borrow.Author.Rules.{rules}
use Rattle.output.proofs.LineLaws.{reach-listed, first-part, reach-refused}
use Rattle.output.proofs.list.reached_lines.Goals as goal

pub returns-in-Ok : goal.returns-in-Ok
returns-in-Ok c = reach-listed _ c.args.list.now c.in-Ok.is c.list_lines.ensures (search (first-part, arith)) (search rules)

pub returns-in-Err : goal.returns-in-Err
returns-in-Err c = reach-refused _ _ c.in-Err.is (c.refused_line.ensures (search rules))
