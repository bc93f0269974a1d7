-- From what reading a pattern answers to what an operation answers.
use Prim.Native.Nat.{ℕ}
use mathlib.Core.Path.{◌≡◌, sym, ap, ◌∙◌}
use mathlib.Core.Bool.{Bool}
use mathlib.Core.List.{List}
use Rattle.std.specs.Prelude.{Result, Ok, Err}
use Rattle.refusal.specs.declared.Refusal.{Refusal}
use Rattle.refusal.specs.Figures.{Figures, refused_for}
use Rattle.letters.specs.declared.Case.{Case}
use Rattle.pattern.specs.Form.{Pattern}
use Rattle.pattern.specs.Meaning.{query}
use Rattle.pattern.specs.Reader.{Read, accepted, read_pattern}
use Rattle.pattern.specs.Automata.{Automaton, TablesOn, verdict_figures, read_figures}
use Rattle.pattern.specs.declared.automaton.Tables.{Tables}
use Rattle.pattern.proofs.Readings.{read-accepted, read-refused}
use Rattle.lines.specs.Answers.{line_figures, run_figures, line_result, run_result}
use Rattle.lines.specs.Promises.{TestsLine, CountsRun}

-- A refused pattern, whatever else is asked.
module _ (c : Case) (p w : List ℕ) {v : Result Tables Refusal} (figures : verdict_figures v ≡ read_figures (read_pattern p)) {r : Refusal} (e : v ≡ Err r) where
  pub line-passed : refused_for r ≡ line_result c (read_pattern p) w
  unfolding line_result
  line-passed = sym (ap (λ (d : Read). line_result c d w) (read-refused p figures e))

  pub run-passed : refused_for r ≡ run_result c (read_pattern p) w
  unfolding run_result
  run-passed = sym (ap (λ (d : Read). run_result c d w) (read-refused p figures e))

-- An accepted one, by its tree.
module _ (c : Case) (p : List ℕ) {v : Result Tables Refusal} (on : TablesOn c p v) (w : List ℕ) where
  module _ {d : Tables} (e : v ≡ Ok d) where
    answered-by : (F : Read → Figures ℕ) (x : Figures ℕ) → ((t : Pattern) → Automaton (query c t) d.keys d.enter d.accepting → x ≡ F (accepted t)) → x ≡ F (read_pattern p)
    answered-by F x f = let r = read-accepted c p on e in f r.tree r.tables ∙ sym (ap F r.reading)

    pub line-answered : (r : Result Bool Refusal) → TestsLine d w r → line_figures r ≡ line_result c (read_pattern p) w
    unfolding TestsLine line_result
    line-answered r f = answered-by (λ a. line_result c a w) (line_figures r) (λ t. f (query c t))

    pub run-answered : (r : Result ℕ Refusal) → CountsRun d w r → run_figures r ≡ run_result c (read_pattern p) w
    unfolding CountsRun run_result
    run-answered r f = answered-by (λ a. run_result c a w) (run_figures r) (λ t. f (query c t))
