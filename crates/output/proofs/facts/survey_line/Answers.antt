-- `facts::survey_line`: by the case of the answer.
use borrow.Author.Rules.{rules}
use Rattle.output.proofs.LineLaws.{survey-facts, survey-refused}
use Rattle.output.proofs.facts.survey_line.Goals as goal

pub returns-in-Ok : goal.returns-in-Ok
returns-in-Ok c = search (survey-facts)

pub returns-in-Err : goal.returns-in-Err
returns-in-Err c = survey-refused _ c.in-Err.is (c.refused_line.ensures (search rules))
