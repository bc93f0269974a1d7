-- What a program prints for what was read: for every input of which that was read, the line of its answer stands in the buffer.
use Rattle.std.specs.Prelude.{ℕ, ◌≡◌, Option, None, Some, option_map, Result, List}
use Rattle.refusal.specs.declared.Refusal.{Refusal}
use Rattle.letters.specs.declared.Case.{Case}
use Rattle.std.specs.Prelude.{Result}
use Rattle.counter.specs.declared.counting.Count.{Count}
use Rattle.depth.specs.declared.unmatched.Delimiters.{Delimiters}
use Rattle.depth.specs.declared.reporting.Depths.{Depths}
use Rattle.reach.specs.Answer.{reached_figures}
use Rattle.command.specs.declared.asked.Asked.{Asked}
use Rattle.command.specs.declared.buffer.TheConstants.{BOOK_READ, PATTERN_READ}
use Rattle.command.specs.declared.input.TheConstants.{READ}
use Rattle.command.specs.Buffers.{ReadFrom}
use Rattle.command.specs.Input.{told_by, program_answer}
use Rattle.command.specs.Reads.{BookFrom, CountsAsked}
use Rattle.survey.specs.declared.facts.Facts.{Facts}
use Rattle.survey.specs.Depths.{depth_told, DepthsAsked}
use Rattle.survey.specs.Facts.{survey_figures, survey_result}
use Rattle.survey.specs.Reached.{ReachesAsked}
use Rattle.output.specs.Lines.{Line, count_line, survey_line, reach_text, depth_line}
use Rattle.replies.specs.declared.printed.Reply.{Reply}

-- `cuecount`, of every input of which this was read
unfoldable pub ProgramReplies : List ℕ → List ℕ → List ℕ → ℕ → Type 0
ProgramReplies input before after length = (w : List ℕ) → ReadFrom READ input w → Line (count_line (program_answer w)) before after length

-- what a book holds
pub record SurveyPrinted (b before after : List ℕ) (r : Reply (Result Facts Refusal)) : Type 0 where
  pub line : Line (survey_line (survey_result b)) before after r.length
  pub found : survey_figures r.found ≡ survey_result b

unfoldable pub SurveyReplies : List ℕ → List ℕ → List ℕ → Reply (Result Facts Refusal) → Type 0
SurveyReplies book before after r = (b : List ℕ) → BookFrom book b → SurveyPrinted b before after r

-- the text of what is told stands in the buffer; where nothing is told, the buffer is left as it was
abbrev pub PrintedIf : {T : Type 0} → (T → List ℕ) → List ℕ → List ℕ → Option (Reply T) → Type 0
PrintedIf text before after (Some r) = Line (text r.found) before after r.length
PrintedIf text before after None = after ≡ before

abbrev pub found_in : {T : Type 0} → Option (Reply T) → Option T
found_in r = option_map (λ r. r.found) r

-- What a function that is asked for a macro answers, and its text.
pub record Printed {T : Type 0} (Answers : Option T → Type 0) (text : T → List ℕ) (before after : List ℕ) (r : Option (Reply T)) : Type 0 where
  pub answers : Answers (found_in r)
  pub printed : PrintedIf text before after r

-- the line of a count
abbrev pub CountReplies : List ℕ → List ℕ → Case → Asked → List ℕ → List ℕ → Option (Reply (Result Count Refusal)) → Type 0
CountReplies book pattern c a before after r = Printed (CountsAsked BOOK_READ PATTERN_READ book pattern c a) (λ found. count_line (told_by found)) before after r

-- the line of a run's depths
abbrev pub DepthReplies : List ℕ → Delimiters → Asked → List ℕ → List ℕ → Option (Reply (Result Depths Refusal)) → Type 0
DepthReplies book keys a before after r = Printed (DepthsAsked book keys a) (λ found. depth_line (depth_told found)) before after r

-- the lines of a reach list, in the order that it has
abbrev pub ReachReplies : List ℕ → Asked → List ℕ → List ℕ → List ℕ → List ℕ → Option (Reply (Result ℕ Refusal)) → Type 0
ReachReplies book a listed list before after r = Printed (λ found. ReachesAsked book a found listed list) (λ found. reach_text (reached_figures found) list) before after r
