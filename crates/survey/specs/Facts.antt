-- What a book holds.
use Rattle.std.specs.Prelude.{ℕ, ◌≡◌, Result, Ok, Err, List, [], length, get_or}
use Rattle.refusal.specs.declared.Refusal.{Refusal}
use Rattle.refusal.specs.Figures.{Figures, answered, refused_with}
use Rattle.runs.specs.Counts.{sum_below}
use Rattle.book.specs.Format.{Macro}
use Rattle.book.specs.Reading.{Reading, got, refused, read_book, version_in}
use Rattle.command.specs.Reads.{BookFrom}
use Rattle.survey.specs.declared.facts.Facts.{Facts}

-- how many items macros hold together
unfoldable pub item_count : List Macro → ℕ
item_count ms = sum_below (length ms) (λ i. length (get_or ms i []))

-- "A refusal's other numbers are 0"
abbrev pub no_facts : Facts
no_facts = record { version = 0; macros = 0; items = 0; bytes = 0 }

abbrev pub survey_figures : Result Facts Refusal → Figures Facts
survey_figures (Ok f) = answered f
survey_figures (Err r) = refused_with no_facts r

-- the version, the macros, their items and the bytes of a sound book; or the refusal
abbrev pub survey_for : List ℕ → Reading (List Macro) → Figures Facts
survey_for b (got ms rest) = answered (record { version = version_in b; macros = length ms; items = item_count ms; bytes = length b })
survey_for b (refused r) = refused_with no_facts r

unfoldable pub survey_result : List ℕ → Figures Facts
survey_result b = survey_for b (read_book b)

-- what is said of every book of which this was read
unfoldable pub Surveys : List ℕ → Result Facts Refusal → Type 0
Surveys book r = (b : List ℕ) → BookFrom book b → survey_figures r ≡ survey_result b
