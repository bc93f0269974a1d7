-- Document 02, S-3: what is answered for the k-th matching line of a macro's run, and what the work words and the buffer hold afterwards.
use Rattle.std.specs.Prelude.{ℕ, suc, ◌+◌, ◌-◌, ◌*◌, cond, List, ◌++◌, Result, Ok, Err, ltb, length, drop}
use Rattle.refusal.specs.declared.Refusal.{Refusal}
use Rattle.refusal.specs.declared.Refusal.TheVariants.{NoSuchLine, LineNumberOverflow, BufferTooShort}
use Rattle.refusal.specs.Number.{number}
use Rattle.runs.specs.Kept.{over, first_words, words_over}
use Rattle.book.specs.Format.{Macro}
use Rattle.book.specs.Expansion.{expansion}
use Rattle.book.specs.Reading.{Reading}
use Rattle.book.specs.Steps.{answer_by}
use Rattle.letters.specs.declared.Case.{Case}
use Rattle.pattern.specs.Meaning.{Query, query}
use Rattle.pattern.specs.Reader as reader
use Rattle.reports.specs.Words.{behind_rows}
use Rattle.counter.specs.Front.{front}
use Rattle.counter.specs.Counting.{report_size, macro_words}
use Rattle.extents.specs.Capped.{most}
use Rattle.extents.specs.Extents.{extent_of}
use Rattle.extents.specs.Words as extents
use Rattle.find.specs.declared.finding.FoundLine.{FoundLine}
use Rattle.find.specs.Lines.{Sought, missing, found, kth_line}

-- Work words.

-- "The work space has four words a macro more, after all the reports"
abbrev pub needed : Query → ℕ → ℕ
needed t m = suc m * (report_size t + extents.width)

-- words that are enough for every book and pattern: 1,024 macros, 32 states
abbrev pub most_words : ℕ
most_words = 1024 * (32 + behind_rows + extents.width)

-- where the four words of macro 0 stand
abbrev pub base_of : Query → ℕ → ℕ
base_of t m = suc m * report_size t

-- the four words of macro i: how far its written-out run goes
abbrev pub extent_words_of : List Macro → ℕ → List ℕ
extent_words_of ms i = extents.extent_words (extent_of (expansion ms i))

-- the reports of macros 0 to m, then four words for each of them, and later words as they were
unfoldable pub written : Query → List Macro → ℕ → List ℕ → List ℕ
written t ms m work = first_words (macro_words t ms) (suc m) ++ words_over (extent_words_of ms) extents.width (suc m) (drop (base_of t m) work)

-- The answer: the refusal's number, or 0 with the line's number and the number of its keys; the work words, and the buffer.
pub record Outcome : Type 0 where
  pub refusal : ℕ
  pub number : ℕ
  pub length : ℕ
  pub work : List ℕ
  pub buffer : List ℕ

abbrev pub stopped : Refusal → List ℕ → List ℕ → Outcome
stopped r work buffer = record { refusal = number r; number = 0; length = 0; work = work; buffer = buffer }

abbrev pub finished : ℕ → ℕ → List ℕ → List ℕ → Outcome
finished n l work buffer = record { refusal = 0; number = n; length = l; work = work; buffer = buffer }

-- "15 fewer than k matching lines, or k is 0; 16 the line number passes 2^64 − 1; 17 the buffer is shorter than the line"; else "the keys,
-- written to the front of a lent buffer without LF. The rest of the buffer is not touched."
unfoldable pub find_of : Sought → List ℕ → List ℕ → Outcome
find_of missing work buffer = stopped NoSuchLine work buffer
find_of (found n l) work buffer =
    cond (ltb most n) (stopped LineNumberOverflow work buffer)
    (cond (ltb (length buffer) (length l)) (stopped BufferTooShort work buffer)
    (finished n (length l) work (over l buffer)))

-- "all three after 11 in that order, with the lent buffer unchanged and the work words written"; a refusal up to 11 leaves both
unfoldable pub find_result : Case → Reading (List Macro) → reader.Read → ℕ → ℕ → List ℕ → List ℕ → Outcome
find_result c book pattern m k work buffer =
    answer_by (λ r. stopped r work buffer) (λ (ms, t). find_of (kth_line (query c t) k (expansion ms m)) (written (query c t) ms m work) buffer)
    (front book pattern (λ t. needed (query c t) m) m (length work))

-- what `find_line` answers, with the work words and the buffer after it
abbrev pub outcome : Result FoundLine Refusal → List ℕ → List ℕ → Outcome
outcome (Ok line) work buffer = finished line.number line.length work buffer
outcome (Err r) work buffer = stopped r work buffer

-- Where the line is, without its keys, for whoever has no buffer that is long enough: the number of its keys is told up to 2^64 − 2.
abbrev pub longest : ℕ
longest = most - 1

unfoldable pub told : ℕ → ℕ
told n = cond (ltb n longest) n longest

-- the figures and the work words
pub record Location : Type 0 where
  pub refusal : ℕ
  pub number : ℕ
  pub length : ℕ
  pub work : List ℕ

abbrev pub nowhere : Refusal → List ℕ → Location
nowhere r work = record { refusal = number r; number = 0; length = 0; work = work }

-- 15 and 16 as there; 17 plays no part
unfoldable pub place_of : Sought → List ℕ → Location
place_of missing work = nowhere NoSuchLine work
place_of (found n l) work = cond (ltb most n) (nowhere LineNumberOverflow work) (record { refusal = 0; number = n; length = told (length l); work = work })

unfoldable pub locate_result : Case → Reading (List Macro) → reader.Read → ℕ → ℕ → List ℕ → Location
locate_result c book pattern m k work =
    answer_by (λ r. nowhere r work) (λ (ms, t). place_of (kth_line (query c t) k (expansion ms m)) (written (query c t) ms m work))
    (front book pattern (λ t. needed (query c t) m) m (length work))

-- what `locate_line` answers
abbrev pub placed : Result FoundLine Refusal → List ℕ → Location
placed (Ok line) work = record { refusal = 0; number = line.number; length = line.length; work = work }
placed (Err r) work = nowhere r work
