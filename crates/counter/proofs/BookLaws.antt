-- From the reports of a book's macros to what the count answers.
use Prim.Native.Nat.{ℕ, suc, ◌+◌, ◌*◌, ◌^◌, ◌<◌}
use native.Mathlib.Omega.{arith}
use mathlib.Core.Path.{◌≡◌, refl, sym, ap, ◌∙◌}
use mathlib.Core.Bool.{true}
use mathlib.Core.List.{List}
use lib.Dec.{leb}
use lib.ListN.{length, drop}
use borrow.Author.Tests.{leb-true, eq-eqb, ne_eqb}
use Rattle.refusal.specs.declared.Refusal.{Refusal}
use Rattle.refusal.specs.declared.Refusal.TheVariants.{CountOverflow}
use Rattle.book.specs.Expansion.{expansion}
use Rattle.book.specs.Format.{Macro}
use Rattle.book.specs.Reading.{Reading, read_book, macros_in, version_in}
use Rattle.std.specs.Prelude.{Option, Some, None, Result, Ok, Err}
use Rattle.book.specs.Answer.{opened_figures, check_result}
use Rattle.book.specs.Steps.{refused, settled, space_step, InBook, settled_by}
use Rattle.book.proofs.LayoutLaws.{well-in}
use Rattle.book.proofs.StepLaws.{book-refuses, space-inside, space-room}
use Rattle.book.proofs.Expansion.{expansion-run}
use Rattle.pattern.specs.Meaning.{Query, query}
use Rattle.letters.specs.declared.Case.{Case}
use Rattle.pattern.specs.Form.{Pattern}
use Rattle.pattern.specs.Reader as reader
use Rattle.pattern.specs.Automata.{Automaton, TablesOn, verdict_figures, read_figures}
use Rattle.pattern.specs.declared.automaton.Accepting.{Accepting}
use Rattle.pattern.specs.declared.automaton.Tables.{Tables}
use Rattle.pattern.proofs.Readings.{states-of}
use Rattle.reports.specs.declared.report.Report.{Report}
use Rattle.reports.specs.Totals.{total_of}
use Rattle.reports.specs.declared.span_count.SpanCount.{SpanCount}
use Rattle.reports.specs.Reports.{report, in_report, total_in}
use Rattle.reports.specs.Words.{behind_rows, loaded_at}
use Rattle.reports.proofs.ReportLaws.{in-report, total-run}
use Rattle.counter.specs.declared.counting.Count.{Count}
use Rattle.counter.specs.Front.{front, InPattern}
use Rattle.counter.specs.Counting.{steps, steps_in, stopped, finished_by, matching_lines, needed, count_of, count_result, book_result}
use Rattle.counter.specs.Answers.{outcome}
use Rattle.counter.specs.Promises.{place_of, MacroFits, Filled, BookCounted}
use Rattle.counter.proofs.FrontLaws.{pattern-refuses, pattern-in, front-book, front-pattern, front-refuses, front-settles}
use Rattle.counter.proofs.FillLaws.{reports-at}

-- the two ways out of `steps_for`
pub steps-one : (version n : ℕ) → version ≡ 1 → n ≡ steps_in version n
steps-one version n e = rw (eq-eqb version 1 e) refl

pub steps-none : (version n : ℕ) → (version ≡ 1 → ⊥) → 0 ≡ steps_in version n
steps-none version n e = rw (ne_eqb version 1 e) refl

-- Macro m.
module _ {book offsets : List ℕ} {m : ℕ} {p : Accepting} {before : List ℕ} (g : MacroFits book offsets m p before) where
  module _ {keys enter after : List ℕ} {n : ℕ} (f : Filled keys enter p (macros_in book) m before after n) {version k : ℕ} (v : version ≡ version_in book) (often : k ≡ steps_in version n) where
    module _ {r : Report} {a : SpanCount} {x : Option ℕ} (l : r ≡ loaded_at after (place_of p m) p.states) (i : a ≡ in_report r) (z : x ≡ total_in p a) where
      -- the count is that of the run
      counted : (t : Query) → Automaton t keys enter p → x ≡ total_of (matching_lines t (macros_in book) m)
      counted t d =
          let ms = macros_in book in
          let well = well-in book g.inside in
          let there : r ≡ report t (expansion ms m) = l ∙ rw (states-of d) (reports-at t d.few ms (suc m) m (omega arith) after (drop (needed t m) before) (f.counts t d).0) in
          z ∙ ap (total_in p) (i ∙ ap in_report there ∙ in-report t (expansion ms m)) ∙ total-run d (expansion ms m) (expansion-run ms well m)

      -- the steps are those of its version
      told : (t : Query) → Automaton t keys enter p → finished_by x k after ≡ count_of (version_in book) t (macros_in book) m before
      told t d =
          let both = f.counts t d in
          let own : k ≡ steps_in (version_in book) (steps t (macros_in book) m) = often ∙ rw (v, both.1) refl in
          ap (λ (y : Option ℕ). finished_by y k after) (counted t d) ∙ rw (own, both.0) refl

      pub macro-lines : {l : ℕ} → x ≡ Some l → BookCounted (version_in book) keys enter p (macros_in book) m before after (Ok (record { lines = l; steps = k }))
      unfolding BookCounted
      macro-lines e t d = ap (λ (y : Option ℕ). finished_by y k after) (sym e) ∙ told t d

      pub macro-over : x ≡ None → BookCounted (version_in book) keys enter p (macros_in book) m before after (Err CountOverflow)
      unfolding BookCounted
      macro-over e t d = ap (λ (y : Option ℕ). finished_by y k after) (sym e) ∙ told t d

-- A refusal leaves the work words; what is settled is counted.
module _ (c : Case) (version : ℕ) (book : Reading (List Macro)) (pattern : reader.Read) (m : ℕ) (before : List ℕ) where
  stopped_by : {r : Refusal} → front book pattern (λ t. needed (query c t) m) m (length before) ≡ refused r → stopped r before ≡ count_result c version book pattern m before
  unfolding count_result
  stopped_by e = rw e refl

  counted-by : {ms : List Macro} {t : Pattern} → front book pattern (λ t. needed (query c t) m) m (length before) ≡ settled (ms, t) → count_of version (query c t) ms m before ≡ count_result c version book pattern m before
  unfolding count_result
  counted-by e = rw e refl

-- Any book.
pub book-refused : (c : Case) (book : List ℕ) (p : reader.Read) (m : ℕ) (before : List ℕ) (r : Refusal) → opened_figures (Err r) ≡ check_result (read_book book) → stopped r before ≡ count_result c (version_in book) (read_book book) p m before
book-refused c book p m before r e = stopped_by c (version_in book) (read_book book) p m before (front-book (read_book book) p (λ t. needed (query c t) m) m (length before) (book-refuses book e))

-- A sound book, and a pattern that is refused.
module _ {book offsets : List ℕ} {macros : ℕ} (i : InBook book offsets macros) (s : List ℕ) {v : Result Tables Refusal} {r : Refusal} (figures : verdict_figures v ≡ read_figures (reader.read_pattern s)) (e : v ≡ Err r) where
  pub pattern-refused : (c : Case) (m : ℕ) (before : List ℕ) → stopped r before ≡ book_result c book s m before
  pattern-refused c m before =
      stopped_by c (version_in book) (read_book book) (reader.read_pattern s) m before
      (front-pattern (read_book book) (reader.read_pattern s) (λ t. needed (query c t) m) m (length before) i.sound (pattern-refuses s figures e))

-- A sound book, and a pattern that is accepted.
module _ {book offsets : List ℕ} {macros : ℕ} (i : InBook book offsets macros) (c : Case) (s : List ℕ) {v : Result Tables Refusal} (tables : TablesOn c s v) (m : ℕ) (before : List ℕ) where
  module _ {a : Tables} (e : v ≡ Ok a) where
    accepted : InPattern c s a.keys a.enter a.accepting
    accepted = pattern-in c s tables e

    -- a size of some words more than states is small
    pub size_fits : (k : ℕ) → leb k 32 ≡ true → a.accepting.states + k < 2 ^ 64
    size_fits k h = omega (arith, accepted.small, leb-true k 32 h)

    -- with these work words
    module _ (x : Result (Unit {0}) Refusal) (told : settled_by x ≡ space_step macros m (suc m * (a.accepting.states + behind_rows)) (length before)) where
      sized : settled_by x ≡ space_step macros m (needed (query c accepted.tree) m) (length before)
      sized = rw (← states-of accepted.tables) told

      pub space-refused : {r : Refusal} → x ≡ Err r → stopped r before ≡ book_result c book s m before
      space-refused f = stopped_by c (version_in book) (read_book book) (reader.read_pattern s) m before (front-refuses i accepted (λ t. needed (query c t) m) m (length before) x sized f)

      module _ (f : x ≡ Ok tt) where
        pub macro-in : MacroFits book offsets m a.accepting before
        macro-in =
            let inside : m < macros = space-inside macros m (suc m * (a.accepting.states + behind_rows)) (length before) x told f in
            record {
              table = i.table;
              inside = omega (arith, i.many);
              small = accepted.small;
              room = space-room macros m (suc m * (a.accepting.states + behind_rows)) (length before) x told f;
            }

        pub macro-counted : (after : List ℕ) (r : Result Count Refusal) → BookCounted (version_in book) a.keys a.enter a.accepting (macros_in book) m before after r → outcome r after ≡ book_result c book s m before
        unfolding BookCounted
        macro-counted after r g =
            let settles = front-settles i accepted (λ t. needed (query c t) m) m (length before) x sized f in
            g (query c accepted.tree) accepted.tables ∙ counted-by c (version_in book) (read_book book) (reader.read_pattern s) m before settles
