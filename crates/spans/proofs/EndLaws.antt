-- The matching lines of a run are its closed lines and what the two ends of its span say.
use Prim.Native.Nat.{ℕ, ◌+◌, ◌<◌, ◌≤◌}
use native.Mathlib.Omega.{arith}
use native.Mathlib.Nat.{zero-add}
use mathlib.Core.Path.{◌≡◌, refl, sym, ◌∙◌}
use mathlib.Core.Bool.{Bool, true, false, not, cond, ◌&&◌, not-not}
use mathlib.Core.List.{List, [], ◌∷◌}
use lib.ListN.{get_or}
use Rattle.runs.specs.Keys.{is_line, is_run}
use Rattle.stateset.specs.Set.{bit, word, common}
use Rattle.stateset.proofs.Sets.{bit_word}
use Rattle.stateset.proofs.Some.{any-ext}
use Rattle.pattern.specs.Form.{atom_count}
use Rattle.pattern.specs.Meaning.{Query, matches}
use Rattle.pattern.specs.Moves.{states, accepting, leads, accepted_from}
use Rattle.pattern.specs.declared.automaton.Accepting.{Accepting}
use Rattle.pattern.proofs.AcceptedLines.{states-match}
use Rattle.pattern.proofs.Leading.{accepted-is}
use Rattle.lines.specs.Lines.{trimmed, closed_matches, matching, is_open}
use Rattle.lines.proofs.Trims.{trim-line}
use Rattle.lines.specs.Parts.{first_part, later_parts, last_part}
use Rattle.lines.proofs.PartLaws.{count_before, count_one, count_last, first-whole, first-line, later-lines, last_line_lem, matching-parts, matching-whole}
use Rattle.lines.proofs.Tallying.{at_most_one}
use Rattle.spans.specs.declared.span.Span.{Span}
use Rattle.spans.specs.Spans.{span_with, span, closed_with, closed_lines}
use Rattle.spans.specs.Joining.{state_count, last_line, ends_with, end_lines}
use Rattle.spans.proofs.RowLaws.{states-all, row_of}
use Rattle.spans.proofs.EdgeLaws.{heads_of, common-start, starts}

module _ (t : Query) (few : atom_count t.tree ≤ 29) (p : Accepting) (tables : p.accepting ≡ word 32 (accepting t.tree)) where
  -- the states that a line leads to have left line-start exactly if it has a key
  left-start : (l : List ℕ) → common (states t) (word (states t) (leads t 0 l)) 1 ≡ not (is_open l)
  left-start l = common-start (states t) (word (states t) (leads t 0 l)) (omega arith) ∙ bit_word (states t) (leads t 0 l) 0 (omega arith) ∙ starts t l

  -- and accept exactly if it matches
  accepts : (l : List ℕ) → is_line l ≡ true → common (states t) (word (states t) (leads t 0 l)) p.accepting ≡ matches t l
  accepts l h =
      any-ext (states t) (λ r. bit (word (states t) (leads t 0 l)) r && bit p.accepting r) (λ r. leads t 0 l r && accepting t.tree r)
      (λ r g. let low : r < 32 = omega arith in rw (tables, bit_word (states t) (leads t 0 l) r g, bit_word 32 (accepting t.tree) r low) refl)
      ∙ sym (accepted-is t 0 l)
      ∙ states-match t l h

  last-part : (l : List ℕ) → is_line l ≡ true → cond (last_line (states t) p (word (states t) (leads t 0 l))) 1 0 ≡ count_last (matches t) l
  last-part l h = rw (left-start l, accepts l h, not-not (is_open l)) refl

  first_part_lem : (l : List ℕ) → is_line l ≡ true → common (states t) (heads_of t l) 1 ≡ matches t l
  first_part_lem l h = common-start (states t) (heads_of t l) (omega arith) ∙ bit_word (states t) (λ q. accepted_from t q l) 0 (omega arith) ∙ states-match t l h

  -- "the number of lines .. that match", of every run
  pub matching-ends : (w : List ℕ) → is_run w ≡ true → matching t w ≡ closed_lines t w + end_lines p (span t w)
  unfolding closed_lines end_lines span
  matching-ends w run = go (later_parts w) refl
    where
      all : state_count (states t) ≡ states t
      all = states-all (states t) (omega arith)

      go : (ls : List (List ℕ)) → later_parts w ≡ ls → matching t w ≡ closed_with t ls + ends_with (state_count (span_with t w ls).s) p (span_with t w ls).ended (span_with t w ls)
      go [] e =
          let line : is_line w ≡ true = rw (first-whole w e) at (first-line w run) in
          matching-whole t w e ∙ sym (rw (all, row_of (states t) (λ q r. leads t q w r) 0 (omega arith) (omega arith)) (zero-add _ ∙ last-part w line))
      go (l ∷ ls) e =
          let line = last_line_lem l ls (rw e at (later-lines w run)) in
          let one = first_part_lem (trimmed (first_part w)) (trim-line (first_part w) (first-line w run)) in
          matching-parts t w e ∙ rw (all, one, last-part (last_part l ls) line) (sum (count_one (closed_matches t) (first_part w)) (count_before (closed_matches t) l ls) (count_last (matches t) (last_part l ls)))
        where
          sum : (x n y : ℕ) → x + (n + y) ≡ n + (x + y)
          sum x n y = omega arith

-- the ends are two lines at most
pub ends-few : (p : Accepting) (a : Span) → end_lines p a ≤ 2
unfolding end_lines
ends-few p a = go (state_count a.s) a.ended
  where
    last : (s x : ℕ) → cond (last_line s p x) 1 0 ≤ 1
    last s x = at_most_one (last_line s p x) refl

    go : (s : ℕ) (b : Bool) → ends_with s p b a ≤ 2
    go s false = omega (arith, last s (get_or a.rows 0 0))
    go s true = omega (arith, at_most_one (common s a.heads 1) refl, last s a.tail)
