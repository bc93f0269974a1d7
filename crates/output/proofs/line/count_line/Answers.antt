-- `line::count_line`: by the case of the answer.
use borrow.Author.Rules.{rules}
use Rattle.output.proofs.LineLaws.{count-lines, count-refused}
use Rattle.output.proofs.line.count_line.Goals as goal

pub returns-in-Ok : goal.returns-in-Ok
returns-in-Ok c = search (count-lines)

pub returns-in-Err : goal.returns-in-Err
returns-in-Err c = count-refused _ c.in-Err.is (c.refused_line.ensures (search rules))
