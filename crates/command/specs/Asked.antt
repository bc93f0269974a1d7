-- The macro that a command asks for: the last one, or the one that it names by its number, in decimal digits.
use Rattle.std.specs.Prelude.{ℕ, ◌≡◌, true, false, cond, Option, None, Some, List}
use Rattle.letters.specs.declared.Case.{Case}
use Rattle.book.specs.Reading.{read_book}
use Rattle.decimals.specs.Decimals.{is_number, decimal, number_in}
use Rattle.command.specs.declared.asked.Asked.{Asked}
use Rattle.command.specs.Input.{Told, last_macro, macro_answer, last_answer}

-- its number in a book, where 1,024 stands for all from there on, if the text is a number
abbrev pub asked_number : Asked → List ℕ → Option ℕ
asked_number Asked.Last b = Some (last_macro (read_book b))
asked_number (Asked.Named text) b = number_in text.now

-- What is answered of it: P of its number in the book; or N, where the text is no number.
abbrev pub AskedFor : {R : Type 0} → Asked → List ℕ → (ℕ → R → Type 0) → Type 0 → Option R → Type 0
AskedFor Asked.Last b P N (Some r) = P (last_macro (read_book b)) r
AskedFor Asked.Last b P N None = ⊥
AskedFor (Asked.Named text) b P N (Some r) = (is_number text.now ≡ true) × P (decimal text.now) r
AskedFor (Asked.Named text) b P N None = (is_number text.now ≡ false) × N

-- what is told of the count of the macro that a text names, if it names one
unfoldable pub named_answer : Case → List ℕ → List ℕ → List ℕ → Option Told
named_answer c book pattern text = cond (is_number text) (Some (macro_answer c book pattern (decimal text))) None

-- and of the one that is asked for
abbrev pub asked_answer : Case → List ℕ → List ℕ → Asked → Option Told
asked_answer c book pattern Asked.Last = Some (last_answer c book pattern)
asked_answer c book pattern (Asked.Named text) = named_answer c book pattern text.now
