-- The depths of the macro that a command asks for, and the keys that it names.
use Rattle.std.specs.Prelude.{ℕ, ◌≡◌, ⊤, ◌&&◌, ◌||◌, cond, Option, None, Some, List, [], eqb, ltb, length, get_or, replicate, ℤ}
use Rattle.book.specs.Reading.{read_book}
use Rattle.decimals.specs.Decimals.{is_number, decimal}
use Rattle.command.specs.declared.asked.Asked.{Asked}
use Rattle.command.specs.Asked.{AskedFor}
use Rattle.command.specs.Reads.{BookFrom}
use Rattle.depth.specs.declared.unmatched.Delimiters.{Delimiters}
use Rattle.std.specs.Prelude.{Result}
use Rattle.refusal.specs.declared.Refusal.{Refusal}
use Rattle.depth.specs.declared.reporting.Depths.{Depths}
use Rattle.depth.specs.Answer.{Outcome, depth_result, most_words, outcome}

-- a key by its one byte, or by its number in two or three decimal digits, up to 255
unfoldable pub key_in : List ℕ → Option ℕ
key_in w =
    cond (eqb (length w) 1) (Some (get_or w 0 0))
    (cond ((eqb (length w) 2 || eqb (length w) 3) && (is_number w && ltb (decimal w) 256)) (Some (decimal w))
    None)

-- What the command tells: the refusal's number, or 0 with the two depths. The work words are its own.
pub record DepthTold : Type 0 where
  pub refusal : ℕ
  pub end : ℤ
  pub lowest : ℤ

abbrev pub told_of : Outcome → DepthTold
told_of o = record { refusal = o.refusal; end = o.end; lowest = o.lowest }

abbrev pub depth_told : Result Depths Refusal → DepthTold
depth_told r = told_of (outcome r [])

-- the depths of macro m of a book, with words for every book
unfoldable pub depth_answer : Delimiters → List ℕ → ℕ → DepthTold
depth_answer keys b m = told_of (depth_result keys.opening keys.closing (read_book b) m (replicate most_words 0))

-- those of the macro that is asked for, in every book of which this was read
unfoldable pub DepthsAsked : List ℕ → Delimiters → Asked → Option (Result Depths Refusal) → Type 0
DepthsAsked book keys a r = (b : List ℕ) → BookFrom book b → AskedFor a b (λ m r. depth_told r ≡ depth_answer keys b m) ⊤ r
