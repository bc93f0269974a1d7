-- Document 01, "Refused": what is refused before any work, in three steps: the book, a pattern, then the macro and the work words.
use Rattle.std.specs.Prelude.{ℕ, ◌≤◌, ◌≡◌, List, length}
use Rattle.book.specs.Format.{Macro}
use Rattle.book.specs.Reading.{Reading}
use Rattle.book.specs.Steps.{Settled, refused, settled, ◌>>=◌, book_step, space_step}
use Rattle.letters.specs.declared.Case.{Case}
use Rattle.pattern.specs.Form.{Pattern}
use Rattle.pattern.specs.Meaning.{query}
use Rattle.pattern.specs.Reader as reader
use Rattle.pattern.specs.Automata.{Automaton}
use Rattle.pattern.specs.declared.automaton.Accepting.{Accepting}

-- "then 7; then 8 over the whole pattern; 9": an accepted pattern's tree
abbrev pub pattern_step : reader.Read → Settled Pattern
pattern_step (reader.refused r) = refused r
pattern_step (reader.accepted t) = settled t

-- the steps for a book and one pattern, whose tree gives the words that are needed: the macros and the tree
abbrev pub front : Reading (List Macro) → reader.Read → (Pattern → ℕ) → ℕ → ℕ → Settled (List Macro × Pattern)
front book pattern need m words = do
  ms ← book_step book
  t ← pattern_step pattern
  enough ← space_step (length ms) m (need t) words
  settled (ms, t)

-- what the code hands on with the second step: an accepted pattern's tables, by the choice of case
pub record InPattern (c : Case) (s keys enter : List ℕ) (p : Accepting) : Type 0 where
  pub tree : Pattern
  pub sound : pattern_step (reader.read_pattern s) ≡ settled tree
  pub tables : Automaton (query c tree) keys enter p
  pub small : p.states ≤ 32
