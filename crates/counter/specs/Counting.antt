-- Document 01, "States and steps", "Reports" and "Refused", and document 02, S-8: the count over a book, its steps and its work words.
use Rattle.std.specs.Prelude.{ℕ, suc, ◌+◌, ◌*◌, cond, List, [], Option, Some, None, eqb, length, get_or, take}
use Rattle.refusal.specs.declared.Refusal.{Refusal}
use Rattle.refusal.specs.declared.Refusal.TheVariants.{CountOverflow}
use Rattle.refusal.specs.Number.{number}
use Rattle.book.specs.Format.{Macro}
use Rattle.book.specs.Expansion.{expand, unrolled, expansion}
use Rattle.book.specs.Reading.{Reading, read_book, version_in}
use Rattle.book.specs.Steps.{answer_by}
use Rattle.letters.specs.declared.Case.{Case}
use Rattle.pattern.specs.Meaning.{Query, query}
use Rattle.pattern.specs.Moves.{states}
use Rattle.pattern.specs.Reader as reader
use Rattle.lines.specs.Lines.{matching}
use Rattle.spans.specs.Pairs.{pairs}
use Rattle.reports.specs.Totals.{total_of}
use Rattle.reports.specs.Reports.{report}
use Rattle.reports.specs.Words.{behind_rows, report_words}
use Rattle.runs.specs.Kept.{words_over}
use Rattle.runs.specs.Counts.{sum_below}
use Rattle.counter.specs.Front.{front}

-- Steps.

-- "over each item, the pairs", where `called` gives the runs of called macros
unfoldable pub item_steps : Query → (ℕ → List ℕ) → Macro → ℕ
item_steps t called items = sum_below (length items) (λ k. pairs t (expand called (unrolled (take k items))))

-- the steps within one macro
abbrev pub steps_within : Query → List Macro → ℕ → ℕ
steps_within t ms i = item_steps t (λ j. expansion ms j) (get_or ms i [])

-- "Steps of macro m: over macros 0 to m"
unfoldable pub steps : Query → List Macro → ℕ → ℕ
steps t ms m = sum_below (suc m) (steps_within t ms)

-- those of the answer: "Steps belong to version 1 alone; for version 2 the answer's steps are 0 and nothing is claimed of them"
abbrev pub steps_in : ℕ → ℕ → ℕ
steps_in version n = cond (eqb version 1) n 0

-- "items is how many items macros 0 to m hold together"
unfoldable pub items_to : List Macro → ℕ → ℕ
items_to ms m = sum_below (suc m) (λ i. length (get_or ms i []))

-- Work words.

-- "A count needs (m + 1) × (s + 4) words (64 bits) of work space", with "two more work words a macro" (document 02, S-4)
abbrev pub report_size : Query → ℕ
report_size t = states t + behind_rows

abbrev pub needed : Query → ℕ → ℕ
needed t m = suc m * report_size t

-- words that are enough for every book and pattern: 1,024 macros, 32 states (`needed-most`)
abbrev pub most_words : ℕ
most_words = 1024 * (32 + behind_rows)

-- the words of macro i's report
abbrev pub macro_words : Query → List Macro → ℕ → List ℕ
macro_words t ms i = report_words (report t (expansion ms i))

-- the reports of the first n macros stored over the front of the work words
abbrev pub reports_over : Query → List Macro → ℕ → List ℕ → List ℕ
reports_over t ms n work = words_over (macro_words t ms) (report_size t) n work

-- "After it these first words hold the reports of macros 0 to m .. Later words are not touched."
abbrev pub filled : Query → List Macro → ℕ → List ℕ → List ℕ
filled t ms m work = reports_over t ms (suc m) work

-- The answer: the refusal's number, or 0 with the lines and the steps; and the work words.
pub record Outcome : Type 0 where
  pub refusal : ℕ
  pub lines : ℕ
  pub steps : ℕ
  pub work : List ℕ

abbrev pub stopped : Refusal → List ℕ → Outcome
stopped r work = record { refusal = number r; lines = 0; steps = 0; work = work }

abbrev pub finished : ℕ → ℕ → List ℕ → Outcome
finished n k work = record { refusal = 0; lines = n; steps = k; work = work }

-- "the number of lines of the macro's written-out run that match"
abbrev pub matching_lines : Query → List Macro → ℕ → ℕ
matching_lines t ms m = matching t (expansion ms m)

-- so many lines, with k steps, or 12
abbrev pub finished_by : Option ℕ → ℕ → List ℕ → Outcome
finished_by (Some n) k work = finished n k work
finished_by None k work = stopped CountOverflow work

-- 12: "over 2^64 − 1", which "leaves the reports written"
abbrev pub count_of : ℕ → Query → List Macro → ℕ → List ℕ → Outcome
count_of version t ms m work = finished_by (total_of (matching_lines t ms m)) (steps_in version (steps t ms m)) (filled t ms m work)

-- "1 to 6 come in reading order, item by item; then 7; then 8 over the whole pattern; 9; 10; 11; 12."; "other lent memory is
-- unchanged"; of a book of a version, which 20 may refuse, too
unfoldable pub count_result : Case → ℕ → Reading (List Macro) → reader.Read → ℕ → List ℕ → Outcome
count_result c version book pattern m work =
    answer_by (λ r. stopped r work) (λ (ms, t). count_of version (query c t) ms m work) (front book pattern (λ t. needed (query c t) m) m (length work))

-- what the count of macro m answers, of a book and under a pattern as they are lent, with case ignored or not
abbrev pub book_result : Case → List ℕ → List ℕ → ℕ → List ℕ → Outcome
book_result c book pattern m work = count_result c (version_in book) (read_book book) (reader.read_pattern pattern) m work
