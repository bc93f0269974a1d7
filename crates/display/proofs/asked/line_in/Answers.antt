-- `asked::line_in`: by what `find_line` answers.
use Rattle.display.proofs.AskedLaws.{found-shown, found-unwritten}
use Rattle.display.proofs.asked.line_in.Goals as goal

pub returns-in-Ok : goal.returns-in-Ok
returns-in-Ok c = search (found-shown)

pub returns-in-Err : goal.returns-in-Err
returns-in-Err c = search (found-unwritten)
