-- `text::line_text`: by the answer's case.
use borrow.Author.Rules.{rules}
use Rattle.display.specs.Lines.{line_text}
use Rattle.display.proofs.TextLaws.{answer-refused}
use Rattle.display.proofs.text.line_text.Goals as goal

pub returns-in-Ok-Shown : goal.returns-in-Ok-Shown
unfolding line_text
returns-in-Ok-Shown c = search rules

pub returns-in-Ok-Long : goal.returns-in-Ok-Long
unfolding line_text
returns-in-Ok-Long c = search rules

pub returns-in-Err : goal.returns-in-Err
returns-in-Err c = answer-refused _ c.in-Err.is (c.refused_line.ensures (search rules))
