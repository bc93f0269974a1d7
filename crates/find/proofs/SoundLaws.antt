-- From a book and a pattern to what is answered: what is refused before, and the line of a macro of a sound book.
use Prim.Native.Nat.{ℕ, suc, ◌+◌, ◌*◌, ◌<◌, ◌≤◌}
use native.Mathlib.Omega.{arith}
use native.Mathlib.Nat.{mul-le-mul}
use native.Mathlib.Numerals.{add-one}
use mir.Val.{Fits}
use mir.Syntax.{w64}
use mathlib.Core.Path.{◌≡◌, refl, ap, ◌∙◌}
use mathlib.Core.List.{List}
use lib.ListN.{length}
use Rattle.std.specs.Prelude.{Result, Ok, Err}
use Rattle.refusal.specs.declared.Refusal.{Refusal}
use Rattle.book.specs.Format.{Macro}
use Rattle.book.specs.Expansion.{expansion}
use Rattle.book.specs.Reading.{Reading, read_book, macros_in}
use Rattle.book.specs.Steps.{refused, settled, book_step, space_step, InBook, settled_by}
use Rattle.book.specs.Answer.{offsets_in}
use Rattle.book.proofs.LayoutLaws.{macros-few}
use Rattle.book.proofs.StepLaws.{space-inside, space-room}
use Rattle.letters.specs.declared.Case.{Case}
use Rattle.pattern.specs.Meaning.{query}
use Rattle.pattern.specs.Form.{Pattern}
use Rattle.pattern.specs.Reader as reader
use Rattle.pattern.specs.Automata.{TablesOn, verdict_figures, read_figures}
use Rattle.pattern.specs.declared.automaton.Tables.{Tables}
use Rattle.pattern.proofs.Readings.{states-of}
use Rattle.reports.specs.Words.{behind_rows}
use Rattle.counter.specs.Front.{front, InPattern}
use Rattle.counter.proofs.FrontLaws.{pattern-refuses, pattern-in, front-pattern, front-refuses, front-settles}
use Rattle.extents.specs.Words.{width}
use Rattle.find.specs.Lines.{kth_line}
use Rattle.find.specs.Answer.{needed, base_of, written}
use Rattle.find.specs.Promises.{placed_for, placing, placing_of}

-- A refusal leaves the work words; what is settled has a line or none.
module _ (c : Case) (book : Reading (List Macro)) (pattern : reader.Read) (m k : ℕ) (work : List ℕ) where
  stopped_by : {r : Refusal} → front book pattern (λ t. needed (query c t) m) m (length work) ≡ refused r → placing (Err r) work ≡ placing_of c book pattern m k work
  unfolding placing_of
  stopped_by e = rw e refl

  pub placed_by : {ms : List Macro} {t : Pattern} → front book pattern (λ t. needed (query c t) m) m (length work) ≡ settled (ms, t)
      → placing (placed_for (base_of (query c t) m) (kth_line (query c t) k (expansion ms m))) (written (query c t) ms m work) ≡ placing_of c book pattern m k work
  unfolding placing_of
  placed_by e = rw e refl

-- What is settled where nothing is refused: macro m of a sound book, an accepted pattern, and room for all words, with the extents from `base` on.
pub record Placeable (b offsets : List ℕ) (c : Case) (s : List ℕ) (a : Tables) (m base : ℕ) (work : List ℕ) : Type 0 where
  pub pattern : InPattern c s a.keys a.enter a.accepting
  pub table : offsets ≡ offsets_in b
  pub sound : book_step (read_book b) ≡ settled (macros_in b)
  pub inside : m < length (macros_in b)
  pub based : base ≡ base_of (query c pattern.tree) m
  pub room : needed (query c pattern.tree) m ≤ length work
  pub settles : front (read_book b) (reader.read_pattern s) (λ t. needed (query c t) m) m (length work) ≡ settled (macros_in b, pattern.tree)

-- A sound book, and a pattern that is refused.
module _ {b offsets : List ℕ} {macros : ℕ} (i : InBook b offsets macros) (s : List ℕ) {v : Result Tables Refusal} {r : Refusal} (figures : verdict_figures v ≡ read_figures (reader.read_pattern s)) (e : v ≡ Err r) where
  pub pattern-refused : (c : Case) (m k : ℕ) (work : List ℕ) → placing (Err r) work ≡ placing_of c (read_book b) (reader.read_pattern s) m k work
  pattern-refused c m k work =
      stopped_by c (read_book b) (reader.read_pattern s) m k work
      (front-pattern (read_book b) (reader.read_pattern s) (λ t. needed (query c t) m) m (length work) i.sound (pattern-refuses s figures e))

-- A sound book, and a pattern that is accepted.
module _ {b offsets : List ℕ} {macros : ℕ} (i : InBook b offsets macros) (c : Case) (s : List ℕ) {v : Result Tables Refusal} (tables : TablesOn c s v) where
  module _ {a : Tables} (e : v ≡ Ok a) where
    pub accepted : InPattern c s a.keys a.enter a.accepting
    accepted = pattern-in c s tables e

    pub width_fits : Fits w64 (a.accepting.states + behind_rows)
    width_fits = omega (arith, accepted.small)

    pub words-fit : Fits w64 (a.accepting.states + behind_rows + width)
    words-fit = omega (arith, accepted.small)

    -- with these work words
    module _ (m : ℕ) (work : List ℕ) (x : Result (Unit {0}) Refusal) (told : settled_by x ≡ space_step macros m (suc m * (a.accepting.states + behind_rows + width)) (length work)) where
      sized : settled_by x ≡ space_step macros m (needed (query c accepted.tree) m) (length work)
      sized = rw (← states-of accepted.tables) told

      pub space-refused : {r : Refusal} → x ≡ Err r → (k : ℕ) → placing (Err r) work ≡ placing_of c (read_book b) (reader.read_pattern s) m k work
      space-refused f k = stopped_by c (read_book b) (reader.read_pattern s) m k work (front-refuses i accepted (λ u. needed (query c u) m) m (length work) x sized f)

      pub placeable : x ≡ Ok tt → Placeable b offsets c s a m ((m + 1) * (a.accepting.states + behind_rows)) work
      placeable f =
          record {
            pattern = accepted;
            table = i.table;
            sound = i.sound;
            inside = omega (arith, space-inside macros m (needed (query c accepted.tree) m) (length work) x sized f, i.many);
            based = ap (λ (n : ℕ). n * (a.accepting.states + behind_rows)) (add-one m) ∙ ap (λ (n : ℕ). suc m * (n + behind_rows)) (states-of accepted.tables);
            room = space-room macros m (needed (query c accepted.tree) m) (length work) x sized f;
            settles = front-settles i accepted (λ u. needed (query c u) m) m (length work) x sized f;
          }

module _ {b offsets : List ℕ} {c : Case} {s : List ℕ} {a : Tables} {m base : ℕ} {work : List ℕ} (x : Placeable b offsets c s a m base work) where
  few : m < 1024
  few = omega (arith, x.inside, macros-few b)

  pub next_fits : Fits w64 (m + 1)
  next_fits = omega (arith, few)

  pub base-fits : Fits w64 ((m + 1) * (a.accepting.states + behind_rows))
  base-fits = let low : m + 1 ≤ 1024 = omega (arith, few) in let thin : a.accepting.states + behind_rows ≤ 32 + behind_rows = omega (arith, x.pattern.small) in omega (arith, mul-le-mul low thin)
