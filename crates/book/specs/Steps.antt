-- Document 01, "Refused": the steps that come before any work on a book: the book itself, then the macro and the words. What an operation
-- asks besides stands before, between or behind them.
use Rattle.std.specs.Prelude.{ℕ, ◌≡◌, Bool, cond, List, Result, Ok, Err, ltb, length}
use Rattle.refusal.specs.declared.Refusal.{Refusal}
use Rattle.refusal.specs.declared.Refusal.TheVariants.{NoSuchMacro, InsufficientSpace}
use Rattle.book.specs.Format.{Macro}
use Rattle.book.specs.Reading.{Reading, read_book, macros_in}
use Rattle.book.specs.Answer.{offsets_in}

-- a step refuses, or hands something on
pub data Settled (A : Type 0) : Type 0 where
  refused : Refusal → Settled A
  settled : A → Settled A

-- the next step, unless this one refuses
abbrev pub ◌>>=◌ : {A B : Type 0} → Settled A → (A → Settled B) → Settled B
◌>>=◌ (refused r) f = refused r
◌>>=◌ (settled a) f = f a

-- what is answered: by the refusal, or by what was handed on
abbrev pub answer_by : {A B : Type 0} → (Refusal → B) → (A → B) → Settled A → B
answer_by f g (refused r) = f r
answer_by f g (settled a) = g a

-- "1 to 6 come in reading order, item by item", and 20 with them (document 02, S-8): a sound book's macros
abbrev pub book_step : Reading (List Macro) → Settled (List Macro)
book_step (Reading.refused r) = refused r
book_step (Reading.got ms rest) = settled ms

-- "10; 11": whether m is inside, and whether the words are short
abbrev pub space_by : Bool → Bool → Settled (Unit {0})
space_by inside short = cond inside (cond short (refused InsufficientSpace) (settled tt)) (refused NoSuchMacro)

-- 10: "m not below M"; 11: "fewer words .. than stated", which are `need` words
unfoldable pub space_step : ℕ → ℕ → ℕ → ℕ → Settled (Unit {0})
space_step macros m need words = space_by (ltb m macros) (ltb words need)

-- What the code hands on with each step.

-- the first: the places of a sound book's macros, and how many there are
pub record InBook (book offsets : List ℕ) (macros : ℕ) : Type 0 where
  pub table : offsets ≡ offsets_in book
  pub many : macros ≡ length (macros_in book)
  pub sound : book_step (read_book book) ≡ settled (macros_in book)

-- the second: nothing
abbrev pub settled_by : Result (Unit {0}) Refusal → Settled (Unit {0})
settled_by (Ok u) = settled tt
settled_by (Err r) = refused r
