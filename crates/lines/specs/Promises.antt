-- What private functions promise each other; no public contract cites these.
use Rattle.std.specs.Prelude.{ℕ, ◌+◌, ◌≤◌, ◌≡◌, Bool, true, false, cond, List, [], ◌∷◌, ◌++◌, Result, eqb}
use Rattle.refusal.specs.declared.Refusal.{Refusal}
use Rattle.runs.specs.Keys.{is_line, line_end}
use Rattle.pattern.specs.Meaning.{Query}
use Rattle.pattern.specs.declared.automaton.Tables.{Tables}
use Rattle.pattern.specs.Automata.{Automaton}
use Rattle.lines.specs.declared.run.Tally.{Tally}
use Rattle.lines.specs.Answers.{line_figures, run_figures, line_of, run_of}
use Rattle.lines.specs.Lines.{trimmed, closed_matches}
use Rattle.lines.specs.Moving.{start_set, reached}

-- a line's test
unfoldable pub TestsLine : Tables → List ℕ → Result Bool Refusal → Type 0
TestsLine d w r = (t : Query) → Automaton t d.keys d.enter d.accepting → line_figures r ≡ line_of t w

-- a run's count
unfoldable pub CountsRun : Tables → List ℕ → Result ℕ Refusal → Type 0
CountsRun d w r = (t : Query) → Automaton t d.keys d.enter d.accepting → run_figures r ≡ run_of t w

-- before the first key of a line, behind n lines that match
abbrev pub closed_tally : ℕ → Tally
closed_tally n = record { set = start_set; trimmed = start_set; pending = false; lines = n }

-- the tally of a run, where w are the keys of its last line so far, after one more key
unfoldable pub tally_after : Query → List ℕ → Tally → ℕ → Tally
tally_after t w d k =
    cond (eqb k line_end)
    (closed_tally (d.lines + cond (closed_matches t w) 1 0))
    (record { set = reached t (w ++ (k ∷ [])); trimmed = reached t (trimmed (w ++ (k ∷ []))); pending = true; lines = d.lines })

-- one more key of a run; a count grows with each line that has a key or is closed, so it is no more than the keys
pub record AfterKey (a : Tables) (d : Tally) (k : ℕ) (e : Tally) : Type 0 where
  pub small : e.lines + cond e.pending 1 0 ≤ d.lines + 1
  pub tallies : (t : Query) → Automaton t a.keys a.enter a.accepting → (w : List ℕ) → is_line w ≡ true → d.set ≡ reached t w → d.trimmed ≡ reached t (trimmed w) → eqb k 0 ≡ false → e ≡ tally_after t w d k
