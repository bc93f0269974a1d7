-- Document 02, S-3, for the command: what is told of a line. Of one that is longer than the command's buffer, its number and its length (`docs/DECISIONS.md`, 119).
use Rattle.std.specs.Prelude.{ℕ, ◌≡◌, cond, Option, Result, Ok, Err, List, [], eqb, ltb, length, take}
use Rattle.refusal.specs.declared.Refusal.{Refusal}
use Rattle.refusal.specs.declared.Refusal.TheVariants.{NoSuchLine, LineNumberOverflow, BufferTooShort}
use Rattle.refusal.specs.Number.{number}
use Rattle.runs.specs.Kept.{over}
use Rattle.book.specs.Format.{Macro}
use Rattle.book.specs.Expansion.{expansion}
use Rattle.book.specs.Reading.{Reading, read_book}
use Rattle.book.specs.Steps.{answer_by}
use Rattle.letters.specs.declared.Case.{Case}
use Rattle.pattern.specs.Meaning.{query}
use Rattle.pattern.specs.Reader as reader
use Rattle.counter.specs.Front.{front}
use Rattle.extents.specs.Capped.{most}
use Rattle.find.specs.Lines.{Sought, missing, found, kth_line}
use Rattle.find.specs.Answer as finding
use Rattle.command.specs.declared.asked.Asked.{Asked}
use Rattle.command.specs.Asked.{AskedFor}
use Rattle.command.specs.Reads.{BookFrom, PatternFrom}
use Rattle.display.specs.declared.asked.LineAnswer.{LineAnswer}

-- a line's number, how many keys it has, and the keys; its number and how many keys it has; or the refusal's number
pub data Told : Type 0 where
  shown : ℕ → ℕ → List ℕ → Told
  long : ℕ → ℕ → Told
  refused : ℕ → Told

-- the buffer has 65,536 bytes
unfoldable pub told_of : Sought → Told
told_of missing = refused (number NoSuchLine)
told_of (found n l) = cond (ltb most n) (refused (number LineNumberOverflow)) (cond (ltb 65536 (length l)) (long n (finding.told (length l))) (shown n (length l) l))

-- of the k-th matching line of macro m's run; the command has words for every book, so that none are asked for
unfoldable pub line_result : Case → Reading (List Macro) → reader.Read → ℕ → ℕ → Told
line_result c book pattern m k = answer_by (λ r. refused (number r)) (λ (ms, t). told_of (kth_line (query c t) k (expansion ms m))) (front book pattern (λ t. 0) m 0)

abbrev pub line_answer : Case → List ℕ → List ℕ → ℕ → ℕ → Told
line_answer c b p m k = line_result c (read_book b) (reader.read_pattern p) m k

-- what an answer tells, with the buffer after it
abbrev pub told_by : Result LineAnswer Refusal → List ℕ → Told
told_by (Ok (LineAnswer.Shown f)) line = shown f.number f.length (take f.length line)
told_by (Ok (LineAnswer.Long f)) line = long f.number f.length
told_by (Err r) line = refused (number r)

-- what private functions promise each other: what is told where `find_line` refuses a line, by where `locate_line` finds it
abbrev pub place_told : finding.Location → Told
place_told x = cond (eqb x.refusal 0) (long x.number x.length) (refused x.refusal)

unfoldable pub unwritten : ℕ → finding.Location → Told
unwritten r x = cond (eqb r (number BufferTooShort)) (place_told x) (refused r)

-- the keys that are shown
abbrev pub keys_of : Told → List ℕ
keys_of (shown n i l) = l
keys_of (long n l) = []
keys_of (refused r) = []

-- an answer tells this, and the buffer has just the shown keys at its front
pub record Answers (t : Told) (before after : List ℕ) (r : Result LineAnswer Refusal) : Type 0 where
  pub told : told_by r after ≡ t
  pub buffer : after ≡ over (keys_of t) before

-- the line of the macro that is asked for, in every book and under every pattern of which this was read; where none is told, the buffer is left
-- as it was
unfoldable pub LinesAsked : List ℕ → List ℕ → Case → ℕ → Asked → List ℕ → List ℕ → Option (Result LineAnswer Refusal) → Type 0
LinesAsked book pattern c k a before after r =
    (b p : List ℕ) → BookFrom book b → PatternFrom pattern p → AskedFor a b (λ m r. Answers (line_answer c b p m k) before after r) (after ≡ before) r
