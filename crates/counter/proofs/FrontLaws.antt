-- The steps that come before a count, for whoever takes them: what they refuse or hand on, by what their functions answer. Those of the
-- book, the macro and the words are the book's (`StepLaws`).
use Prim.Native.Nat.{ℕ}
use native.Mathlib.Omega.{arith}
use mathlib.Core.Path.{◌≡◌, refl, ap}
use mathlib.Core.Bool.{cond}
use mathlib.Core.List.{List}
use lib.Dec.{ltb}
use lib.ListN.{length}
use Rattle.refusal.specs.declared.Refusal.{Refusal}
use Rattle.refusal.specs.declared.Refusal.TheVariants.{NoSuchMacro, InsufficientSpace}
use Rattle.book.specs.Format.{Macro}
use Rattle.book.specs.Reading.{Reading, read_book, macros_in}
use Rattle.book.specs.Steps.{refused, settled, book_step, space_step, InBook, settled_by}
use Rattle.std.specs.Prelude.{Result, Ok, Err}
use Rattle.book.proofs.StepLaws.{space-refuses, space-settles, space-answer}
use Rattle.letters.specs.declared.Case.{Case}
use Rattle.pattern.specs.Form.{Pattern}
use Rattle.pattern.specs.Meaning.{query}
use Rattle.pattern.specs.Reader as reader
use Rattle.pattern.specs.Automata.{TablesOn, verdict_figures, read_figures}
use Rattle.pattern.specs.declared.automaton.Accepting.{Accepting}
use Rattle.pattern.specs.declared.automaton.Tables.{Tables}
use Rattle.pattern.proofs.Readings.{read-accepted, read-refused, states-of}
use Rattle.counter.specs.Front.{pattern_step, front, InPattern}
use Rattle.counter.specs.Counting.{stopped, count_of, needed, count_result}

-- A pattern, by what `read_pattern` answers.
pub pattern-refuses : (s : List ℕ) {v : Result Tables Refusal} {r : Refusal} → verdict_figures v ≡ read_figures (reader.read_pattern s) → v ≡ Err r → pattern_step (reader.read_pattern s) ≡ refused r
pattern-refuses s figures e = ap pattern_step (read-refused s figures e)

module _ (c : Case) (s : List ℕ) {v : Result Tables Refusal} (tables : TablesOn c s v) where
  pub pattern-in : {a : Tables} → v ≡ Ok a → InPattern c s a.keys a.enter a.accepting
  pattern-in e =
      let a = read-accepted c s tables e in
      record { tree = a.tree; sound = ap pattern_step a.reading; tables = a.tables; small = omega (arith, states-of a.tables, a.tables.few) }

-- The steps in turn, for one pattern.
module _ (book : Reading (List Macro)) (pattern : reader.Read) (need : Pattern → ℕ) (m words : ℕ) where
  pub front-book : {r : Refusal} → book_step book ≡ refused r → front book pattern need m words ≡ refused r
  front-book e = rw e refl

  module _ {ms : List Macro} (e : book_step book ≡ settled ms) where
    pub front-pattern : {r : Refusal} → pattern_step pattern ≡ refused r → front book pattern need m words ≡ refused r
    front-pattern f = rw (e, f) refl

    module _ {t : Pattern} (f : pattern_step pattern ≡ settled t) where
      front-space : {r : Refusal} → space_step (length ms) m (need t) words ≡ refused r → front book pattern need m words ≡ refused r
      front-space g = rw (e, f, g) refl

      front-settled : space_step (length ms) m (need t) words ≡ settled tt → front book pattern need m words ≡ settled (ms, t)
      front-settled g = rw (e, f, g) refl

-- A sound book and an accepted pattern: the third step's answer is that of them all.
module _ {book offsets : List ℕ} {macros : ℕ} (i : InBook book offsets macros) {c : Case} {s keys enter : List ℕ} {p : Accepting} (a : InPattern c s keys enter p) where
  module _ (need : Pattern → ℕ) (m words : ℕ) (x : Result (Unit {0}) Refusal) (e : settled_by x ≡ space_step macros m (need a.tree) words) where
    told : settled_by x ≡ space_step (length (macros_in book)) m (need a.tree) words
    told = rw (← i.many) e

    pub front-refuses : {r : Refusal} → x ≡ Err r → front (read_book book) (reader.read_pattern s) need m words ≡ refused r
    front-refuses f =
        front-space (read_book book) (reader.read_pattern s) need m words i.sound a.sound
        (space-refuses (length (macros_in book)) m (need a.tree) words x told f)

    pub front-settles : x ≡ Ok tt → front (read_book book) (reader.read_pattern s) need m words ≡ settled (macros_in book, a.tree)
    front-settles f =
        front-settled (read_book book) (reader.read_pattern s) need m words i.sound a.sound
        (space-settles (length (macros_in book)) m (need a.tree) words x told f)

-- The count, case by case.
module _ (c : Case) (v m : ℕ) (work : List ℕ) where
  pub count-refused-book : (r : Refusal) (p : reader.Read) → count_result c v (Reading.refused r) p m work ≡ stopped r work
  unfolding count_result
  count-refused-book r p = refl

  module _ (ms : List Macro) (rest : List ℕ) where
    pub count-refused-pattern : (r : Refusal) → count_result c v (Reading.got ms rest) (reader.refused r) m work ≡ stopped r work
    unfolding count_result
    count-refused-pattern r = refl

    pub count-accepted : (t : Pattern) →
        count_result c v (Reading.got ms rest) (reader.accepted t) m work
        ≡ cond (ltb m (length ms)) (cond (ltb (length work) (needed (query c t) m)) (stopped InsufficientSpace work) (count_of v (query c t) ms m work)) (stopped NoSuchMacro work)
    unfolding count_result
    count-accepted t = space-answer (λ r. stopped r work) (λ (ms, t). count_of v (query c t) ms m work) (ms, t) (length ms) m (needed (query c t) m) (length work)
