-- `reporting::depths_in`: the depths are those of macro m's run.
use Rattle.depth.proofs.AnswerLaws.{closings-cast, end-fits, lowest-fits, macro-depths, macro-long, openings-cast}
use Rattle.depth.proofs.reporting.depths_in.Goals as goal

pub returns-then-run-gt-LONGEST : goal.returns-then-run-gt-LONGEST
returns-then-run-gt-LONGEST c = search (macro-long)

pub overflow_cast-openings : goal.overflow_cast-openings
overflow_cast-openings c = search (openings-cast)

pub overflow_cast-closings : goal.overflow_cast-closings
overflow_cast-closings c = search (closings-cast)

pub overflow_sub-result : goal.overflow_sub-result
overflow_sub-result c = search (end-fits)

pub overflow_sub-result-2 : goal.overflow_sub-result-2
overflow_sub-result-2 c = search (lowest-fits)

pub returns : goal.returns
returns c = search (macro-depths)
