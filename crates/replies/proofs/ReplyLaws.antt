-- What is printed is the line of what is answered.
use Prim.Native.Nat.{ℕ}
use mathlib.Core.List.{List}
use Rattle.std.specs.Prelude.{Result}
use Rattle.refusal.specs.declared.Refusal.{Refusal}
use Rattle.std.specs.Prelude.{Result}
use Rattle.counter.specs.declared.counting.Count.{Count}
use Rattle.command.specs.Input.{told_by}
use Rattle.command.specs.declared.input.TheConstants.{READ}
use Rattle.command.specs.Reads.{ProgramAnswers}
use Rattle.command.proofs.ReadLaws.{program-answers}
use Rattle.survey.specs.declared.facts.Facts.{Facts}
use Rattle.survey.specs.Facts.{survey_figures, Surveys}
use Rattle.survey.proofs.FactLaws.{survey-answers}
use Rattle.output.specs.Lines.{Line, count_line, survey_line}
use Rattle.replies.specs.Replies.{ProgramReplies, SurveyReplies}

pub program-replies : (input : List ℕ) (c : Result Count Refusal) {before after : List ℕ} {length : ℕ} → ProgramAnswers READ input c → Line (count_line (told_by c)) before after length → ProgramReplies input before after length
unfolding ProgramReplies
program-replies input c a l w read = rw (← program-answers READ input c a w read) l

pub survey-replies : (book : List ℕ) (s : Result Facts Refusal) {before after : List ℕ} {length : ℕ} → Surveys book s → Line (survey_line (survey_figures s)) before after length → SurveyReplies book before after (record { length = length; found = s })
unfolding SurveyReplies
survey-replies book s a l b e = let same = survey-answers book s a b e in record { line = rw (← same) l; found = same }
