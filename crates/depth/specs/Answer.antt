-- Document 02, S-6: what is answered for a macro's run, and what the work words hold afterwards.
use Rattle.std.specs.Prelude.{ℕ, suc, ◌*◌, ◌-◌, ◌^◌, Bool, ◌||◌, cond, List, [], ◌∷◌, eqb, leb, length, Result, Ok, Err, ℤ, pos, negsuc}
use Rattle.refusal.specs.declared.Refusal.{Refusal}
use Rattle.refusal.specs.declared.Refusal.TheVariants.{InvalidDelimiters, RunTooLong}
use Rattle.refusal.specs.Number.{number}
use Rattle.runs.specs.Keys.{line_end}
use Rattle.runs.specs.Kept.{words_over}
use Rattle.book.specs.Format.{Macro}
use Rattle.book.specs.Expansion.{expansion}
use Rattle.book.specs.Reading.{Reading}
use Rattle.book.specs.Steps.{Settled, refused, settled, ◌>>=◌, answer_by, book_step, space_step}
use Rattle.depth.specs.declared.reporting.Depths.{Depths}
use Rattle.depth.specs.Depths.{depth_after, lowest_depth}

-- Work words.

-- "longer than 2^62 keys": a run of exactly so many is not
abbrev pub longest : ℕ
longest = 2 ^ 62

abbrev pub is_short : List ℕ → Bool
is_short w = leb (length w) longest

-- a whole number as a 64-bit word: "two's complement"
abbrev pub word : ℤ → ℕ
word (pos n) = n
word (negsuc n) = 2 ^ 64 - suc n

-- "run length, end depth, lowest depth (two's complement). For a macro whose run is longer than 2^62 keys they are 2^64 − 1, 0 and 0."
unfoldable pub depth_words : ℕ → ℕ → List ℕ → List ℕ
depth_words opening closing w =
    cond (is_short w) (length w ∷ word (depth_after opening closing w) ∷ word (lowest_depth opening closing w) ∷ []) ((2 ^ 64 - 1) ∷ 0 ∷ 0 ∷ [])

-- "three 64-bit words a macro"
abbrev pub width : ℕ
width = 3

-- words that are enough for every book, of 1,024 macros at the most
abbrev pub most_words : ℕ
most_words = 1024 * width

-- the words of macro i
abbrev pub macro_words : ℕ → ℕ → List Macro → ℕ → List ℕ
macro_words opening closing ms i = depth_words opening closing (expansion ms i)

-- "a macro from 0 to m": the words stored over the front of the work words, and later words as they were
abbrev pub filled : ℕ → ℕ → List Macro → ℕ → List ℕ → List ℕ
filled opening closing ms m work = words_over (macro_words opening closing ms) width (suc m) work

-- The answer: the refusal's number, or 0 with the two depths; and the work words.
pub record Outcome : Type 0 where
  pub refusal : ℕ
  pub end : ℤ
  pub lowest : ℤ
  pub work : List ℕ

-- "each with zeros"
abbrev pub stopped : Refusal → List ℕ → Outcome
stopped r work = record { refusal = number r; end = pos 0; lowest = pos 0; work = work }

abbrev pub finished : ℤ → ℤ → List ℕ → Outcome
finished end lowest work = record { refusal = 0; end = end; lowest = lowest; work = work }

-- "Both figures equal those of the written-out run"; 19: "the macro's run is longer than 2^62 keys", with "the words written"
unfoldable pub depths_of : ℕ → ℕ → List ℕ → List ℕ → Outcome
depths_of opening closing run work = cond (is_short run) (finished (depth_after opening closing run) (lowest_depth opening closing run) work) (stopped RunTooLong work)

-- 18: "the two keys are equal, or one is 0 or 10"
abbrev pub no_delimiter : ℕ → Bool
no_delimiter k = eqb k 0 || eqb k line_end

unfoldable pub delimiter_step : ℕ → ℕ → Settled (Unit {0})
delimiter_step opening closing = cond (eqb opening closing || (no_delimiter opening || no_delimiter closing)) (refused InvalidDelimiters) (settled tt)

-- "18 comes before the book is read and 19 after 11"
abbrev pub front : ℕ → ℕ → Reading (List Macro) → ℕ → ℕ → Settled (List Macro)
front opening closing book m words = do
  allowed ← delimiter_step opening closing
  ms ← book_step book
  enough ← space_step (length ms) m (suc m * width) words
  settled ms

-- a refusal before 19 leaves the words as they were
unfoldable pub depth_result : ℕ → ℕ → Reading (List Macro) → ℕ → List ℕ → Outcome
depth_result opening closing book m work =
    answer_by (λ r. stopped r work) (λ ms. depths_of opening closing (expansion ms m) (filled opening closing ms m work)) (front opening closing book m (length work))

-- what `depth` answers, and the work words afterwards
abbrev pub outcome : Result Depths Refusal → List ℕ → Outcome
outcome (Ok d) work = finished d.end d.lowest work
outcome (Err r) work = stopped r work
