-- What functions answer to every input of which something was read.
use Rattle.std.specs.Prelude.{ℕ, ◌≡◌, Option, option_map, List}
use Rattle.letters.specs.declared.Case.{Case}
use Rattle.std.specs.Prelude.{Result}
use Rattle.refusal.specs.declared.Refusal.{Refusal}
use Rattle.counter.specs.declared.counting.Count.{Count}
use Rattle.command.specs.declared.asked.Asked.{Asked}
use Rattle.command.specs.declared.buffer.TheConstants.{BOOK_READ, PATTERN_READ}
use Rattle.command.specs.Asked.{asked_answer}
use Rattle.command.specs.Buffers.{ReadFrom}
use Rattle.command.specs.Input.{told_by, program_answer}

-- a book, and a pattern
abbrev pub BookFrom : List ℕ → List ℕ → Type 0
BookFrom part b = ReadFrom BOOK_READ part b

abbrev pub PatternFrom : List ℕ → List ℕ → Type 0
PatternFrom part p = ReadFrom PATTERN_READ part p

-- `cuecount`, where so many bytes are read at the most
unfoldable pub ProgramAnswers : ℕ → List ℕ → Result Count Refusal → Type 0
ProgramAnswers limit input r = (w : List ℕ) → ReadFrom limit input w → told_by r ≡ program_answer w

-- the count of the macro that is asked for, where so many bytes of a book and of a pattern are read at the most
unfoldable pub CountsAsked : ℕ → ℕ → List ℕ → List ℕ → Case → Asked → Option (Result Count Refusal) → Type 0
CountsAsked most few book pattern c a r = (b p : List ℕ) → ReadFrom most book b → ReadFrom few pattern p → option_map told_by r ≡ asked_answer c b p a
