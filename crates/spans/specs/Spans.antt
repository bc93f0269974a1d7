-- Document 01, "Reports", with document 02, S-4: what a run does to the states of a pattern, and its matching lines between the first line end
-- and the last.
use Rattle.std.specs.Prelude.{ℕ, Bool, true, false, cond, ◌&&◌, List, [], ◌∷◌, ◌++◌, ltb, eqb, replicate}
use Rattle.stateset.specs.Set.{word}
use Rattle.stateset.specs.Tabled.{tabled}
use Rattle.pattern.specs.Meaning.{Query}
use Rattle.pattern.specs.Moves.{states, leads, accepted_from}
use Rattle.lines.specs.Parts.{begins_with_end, first_part, later_parts, parts_before, last_part}
use Rattle.lines.specs.Lines.{trimmed, ends_in_return, count_in, closed_matches}
use Rattle.spans.specs.declared.span.Span.{Span}
use Rattle.spans.specs.declared.span.Edges.{Edges}

-- s rows, and 0 for the states that there are not
abbrev pub rows_of : ℕ → (ℕ → ℕ → Bool) → List ℕ
rows_of s X = tabled (λ q. cond (ltb q s) (word s (X q)) 0) 32 0

-- "Flag 1 or 2: rows are 0"
abbrev pub no_rows : List ℕ
no_rows = replicate 32 0

-- without a line end: "heads, .. tail are 0"
abbrev pub open_span : ℕ → (ℕ → ℕ → Bool) → Edges → Span
open_span s X e = record { s = s; rows = rows_of s X; ended = false; heads = 0; tail = 0; edges = e }

-- with one
abbrev pub ended_span : ℕ → (ℕ → Bool) → (ℕ → Bool) → Edges → Span
ended_span s H T e = record { s = s; rows = no_rows; ended = true; heads = word s H; tail = word s T; edges = e }

-- "the states from which the keys since the last LF, less a final CR, are accepted (once there is an LF, line-start alone is tried)"
abbrev pub trims_with : Query → List ℕ → List (List ℕ) → ℕ → Bool
trims_with t w [] q = accepted_from t q (trimmed w)
trims_with t w (l ∷ ls) q = eqb 0 q && accepted_from t 0 (trimmed (last_part l ls))

-- these; "without a final CR it is 0"; whether "the run begins with LF", and whether "it ends in CR"
unfoldable pub edges : Query → List ℕ → Edges
edges t w =
    record {
      trimmed = word (states t) (λ q. ends_in_return w && trims_with t w (later_parts w) q);
      leading = begins_with_end w;
      trailing = ends_in_return w;
    }

-- "s rows (states reached from each state)"; "heads, the states from which the first line is accepted", less a CR before its LF; "tail, the
-- states reached from line-start since the last LF"
abbrev pub span_with : Query → List ℕ → List (List ℕ) → Span
span_with t w [] = open_span (states t) (λ q p. leads t q w p) (edges t w)
span_with t w (l ∷ ls) = ended_span (states t) (λ q. accepted_from t q (trimmed (first_part w))) (leads t 0 (last_part l ls)) (edges t w)

unfoldable pub span : Query → List ℕ → Span
span t w = span_with t w (later_parts w)

-- "the matching lines strictly between first and last LF"
abbrev pub closed_with : Query → List (List ℕ) → ℕ
closed_with t [] = 0
closed_with t (l ∷ ls) = count_in (closed_matches t) (parts_before l ls)

unfoldable pub closed_lines : Query → List ℕ → ℕ
closed_lines t w = closed_with t (later_parts w)

-- Where one run follows another, the keys behind the left one's last line end and those before the right one's first are one line.
-- Whether there are both line ends, and that line matches:
abbrev pub closes_with : Query → List (List ℕ) → List ℕ → List (List ℕ) → Bool
closes_with t [] v ms = false
closes_with t (l ∷ ls) v [] = false
closes_with t (l ∷ ls) v (m ∷ ms) = closed_matches t (last_part l ls ++ first_part v)

unfoldable pub closes_between : Query → List ℕ → List ℕ → Bool
closes_between t u v = closes_with t (later_parts u) v (later_parts v)
