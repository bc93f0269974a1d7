-- What the command prints for a line: for every book and pattern of which that was read, the text of the answer stands in the buffer.
use Rattle.std.specs.Prelude.{ℕ, Option, Result, List}
use Rattle.refusal.specs.declared.Refusal.{Refusal}
use Rattle.letters.specs.declared.Case.{Case}
use Rattle.command.specs.declared.asked.Asked.{Asked}
use Rattle.replies.specs.declared.printed.Reply.{Reply}
use Rattle.replies.specs.Replies.{Printed}
use Rattle.display.specs.declared.asked.LineAnswer.{LineAnswer}
use Rattle.display.specs.Asked.{told_by, LinesAsked}
use Rattle.display.specs.Lines.{line_text}

-- what is told, with the keys in the buffer, and its text
abbrev pub LineReplies : List ℕ → List ℕ → Case → ℕ → Asked → List ℕ → List ℕ → List ℕ → List ℕ → Option (Reply (Result LineAnswer Refusal)) → Type 0
LineReplies book pattern c k a line keys before after r = Printed (λ found. LinesAsked book pattern c k a line keys found) (λ found. line_text (told_by found keys)) before after r
