-- What the one-line test and the count over a plain run answer.
use Rattle.std.specs.Prelude.{ℕ, Bool, cond, ◌||◌, List, Result, Ok, Err}
use Rattle.refusal.specs.declared.Refusal.{Refusal}
use Rattle.refusal.specs.declared.Refusal.TheVariants.{InvalidKey}
use Rattle.refusal.specs.Figures.{Figures, answered, refused_for}
use Rattle.letters.specs.declared.Case.{Case}
use Rattle.pattern.specs.Meaning.{Query, query, matches}
use Rattle.pattern.specs.Reader.{Read, accepted, refused}
use Rattle.lines.specs.Lines.{matching}
use Rattle.runs.specs.Keys.{member, line_end}

-- the one-line test: 1 if the line matches, or 0
abbrev pub line_figures : Result Bool Refusal → Figures ℕ
line_figures (Ok m) = answered (cond m 1 0)
line_figures (Err r) = refused_for r

-- the count over a plain run: how many lines match
abbrev pub run_figures : Result ℕ Refusal → Figures ℕ
run_figures (Ok n) = answered n
run_figures (Err r) = refused_for r

-- under an accepted pattern: 5 for a "byte 0 or 10 in the one-line test", or whether the line matches
unfoldable pub line_of : Query → List ℕ → Figures ℕ
line_of t w = cond (member 0 w || member line_end w) (refused_for InvalidKey) (answered (cond (matches t w) 1 0))

-- 5 for a "byte 0 in a plain run", or how many lines match
unfoldable pub run_of : Query → List ℕ → Figures ℕ
run_of t w = cond (member 0 w) (refused_for InvalidKey) (answered (matching t w))

-- "Plain runs and single lines are tested after the pattern". Document 02, S-1: both "may be asked for with case ignored".
unfoldable pub line_result : Case → Read → List ℕ → Figures ℕ
line_result c (refused r) w = refused_for r
line_result c (accepted t) w = line_of (query c t) w

unfoldable pub run_result : Case → Read → List ℕ → Figures ℕ
run_result c (refused r) w = refused_for r
run_result c (accepted t) w = run_of (query c t) w
