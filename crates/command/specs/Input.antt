-- Document 01, "The program `cuecount`": what it answers to its input.
use Rattle.std.specs.Prelude.{ℕ, suc, ◌-◌, cond, List, [], ◌∷◌, eqb, ltb, length, take, drop, replicate}
use Rattle.refusal.specs.declared.Refusal.TheVariants.{InputTooLong}
use Rattle.letters.specs.declared.Case.{Case}
use Rattle.book.specs.Format.{Macro}
use Rattle.book.specs.Reading.{Reading, got, refused, read_book}
use Rattle.counter.specs.Counting.{Outcome, stopped, book_result, most_words}
use Rattle.counter.specs.Answers.{outcome}
use Rattle.std.specs.Prelude.{Result}
use Rattle.refusal.specs.declared.Refusal.{Refusal}
use Rattle.counter.specs.declared.counting.Count.{Count}
use Rattle.runs.specs.Keys.{line_end}

-- "Standard input: the pattern, LF, the book."
unfoldable pub pattern_end : List ℕ → ℕ
pattern_end [] = 0
pattern_end (c ∷ w) = cond (eqb c line_end) 0 (suc (pattern_end w))

-- "With no LF the book is empty."
abbrev pub pattern_in : List ℕ → List ℕ
pattern_in w = take (pattern_end w) w

abbrev pub book_in : List ℕ → List ℕ
book_in w = drop (suc (pattern_end w)) w

-- "It asks for the last macro"; a book that is refused has none, and any number will do
abbrev pub last_macro : Reading (List Macro) → ℕ
last_macro (got ms rest) = length ms - 1
last_macro (refused r) = 0

-- the count of the last macro
unfoldable pub last_result : Case → List ℕ → List ℕ → List ℕ → Outcome
last_result c book pattern work = book_result c book pattern (last_macro (read_book book)) work

-- 14: "program only, over 8,192 bytes", which "comes before all". The program has no choice of case.
unfoldable pub program_result : List ℕ → List ℕ → Outcome
program_result w work =
    cond (ltb 8192 (length w)) (stopped InputTooLong work)
    (last_result Case.Sensitive (book_in w) (pattern_in w) work)

-- What a program tells: the refusal's number, or 0 with the lines and the steps. The work words are its own.
pub record Told : Type 0 where
  pub refusal : ℕ
  pub lines : ℕ
  pub steps : ℕ

abbrev pub told : Outcome → Told
told o = record { refusal = o.refusal; lines = o.lines; steps = o.steps }

abbrev pub told_by : Result Count Refusal → Told
told_by r = told (outcome r [])

-- "with 4,096 work words"
unfoldable pub program_answer : List ℕ → Told
program_answer w = told (program_result w (replicate 4096 0))

-- the command for people, with case ignored or not, and 38 words for each of 1,024 macros
unfoldable pub macro_answer : Case → List ℕ → List ℕ → ℕ → Told
macro_answer c book pattern m = told (book_result c book pattern m (replicate most_words 0))

unfoldable pub last_answer : Case → List ℕ → List ℕ → Told
last_answer c book pattern = told (last_result c book pattern (replicate most_words 0))
