-- What is kept of a run: with one key more, of two runs, flat and joined so, and the count that it comes to.
use Prim.Native.Nat.{ℕ, ◌+◌, ◌/◌, ◌%◌, ◌≤◌}
use native.Mathlib.Omega.{arith}
use mathlib.Core.Path.{◌≡◌, refl, sym, ap, ◌∙◌}
use mathlib.Core.Bool.{Bool, true, false, not, cond}
use mathlib.Core.List.{List, [], ◌∷◌, ◌++◌}
use lib.Dec.{eqb}
use Rattle.runs.specs.Keys.{is_key, is_run}
use Rattle.pattern.specs.Meaning.{Query}
use Rattle.pattern.specs.Form.{atom_count}
use Rattle.pattern.specs.Moves.{states}
use Rattle.pattern.specs.Automata.{Automaton}
use Rattle.pattern.specs.declared.automaton.Accepting.{Accepting}
use Rattle.pattern.proofs.Readings.{accepting-of}
use Rattle.lines.specs.Lines.{matching}
use Rattle.stateset.specs.Set.{bit}
use Rattle.stateset.proofs.Sets.{bit-first, bit-half}
use Rattle.spans.specs.declared.span.Span.{Span}
use Rattle.spans.specs.declared.span.Edges.{Edges}
use Rattle.spans.specs.Spans.{span, closed_lines, closes_between}
use Rattle.spans.specs.Joining.{end_lines}
use Rattle.spans.specs.Pairs.{pairs, pairs_in}
use Rattle.spans.proofs.RowLaws.{states-few}
use Rattle.spans.proofs.JoinLaw.{join-spans, closed-append}
use Rattle.spans.proofs.KeyLaw.{extend-span, closed-more}
use Rattle.spans.proofs.EndLaws.{matching-ends, ends-few}
use Rattle.spans.proofs.PairLaws.{pairs_of}
use Rattle.spans.proofs.SpanLaws.{span-size, empty-span, closed-empty, closed_none, joined-few, extended-few}
use Rattle.reports.specs.declared.span_count.SpanCount.{SpanCount}
use Rattle.std.specs.Prelude.{Option, Some, None}
use Rattle.reports.specs.Totals.{total_of, both_totals}
use Rattle.reports.specs.Reports.{span_count, flag_of, shown_of, edges_word, edges_in, flat, report_of, report, with_line, empty_count, extended_count, joined_counts, total_in, closed_in, in_report, joined_reports}
use Rattle.reports.proofs.TotalLaws.{few-lines, total-sum, line-told}

-- the empty run
pub empty-count : (t : Query) → atom_count t.tree ≤ 29 → empty_count (states t) ≡ span_count t []
unfolding span_count
empty-count t few = rw (empty-span t few, closed-empty t) refl

-- n closed lines and perhaps one more
pub with-line : (x : Span) (b : Bool) (n m : ℕ) → m ≡ n + cond b 1 0 → with_line (record { span = x; closes = b }) (total_of n) ≡ record { span = x; closed = total_of m }
with-line x b n m e =
    ap (λ (c : Option ℕ). record { span = x; closed = c }) (ap (both_totals (total_of n)) (line-told b) ∙ total-sum n (cond b 1 0) ∙ ap total_of (sym e))

-- What is kept of u and of v, joined, is what is kept of u followed by v.
pub join-counts : (t : Query) → atom_count t.tree ≤ 29 → (u v : List ℕ) → is_run u ≡ true → is_run v ≡ true → joined_counts (span_count t u) (span_count t v) ≡ span_count t (u ++ v)
unfolding joined_counts span_count
join-counts t few u v g h =
    let n = closed_lines t u + closed_lines t v in
    rw (join-spans t few u v g h, total-sum (closed_lines t u) (closed_lines t v))
    (with-line (span t (u ++ v)) (closes_between t u v) n (closed_lines t (u ++ v)) (closed-append t u v))

module _ {t : Query} {keys enter : List ℕ} {p : Accepting} (d : Automaton t keys enter p) where
  -- With key k more it is what is kept of w followed by k.
  pub extend-count : (w : List ℕ) (k : ℕ) → is_run w ≡ true → is_key k ≡ true → extended_count keys enter p (span_count t w) k ≡ span_count t (w ++ (k ∷ []))
  unfolding extended_count span_count
  extend-count w k g h =
      rw (extend-span d w k g h)
      (with-line (span t (w ++ (k ∷ []))) (closes_between t w (k ∷ [])) (closed_lines t w) (closed_lines t (w ++ (k ∷ []))) (closed-more t w k))

  -- The count that it comes to is the number of the run's matching lines.
  pub total-run : (w : List ℕ) → is_run w ≡ true → total_in p (span_count t w) ≡ total_of (matching t w)
  unfolding total_in span_count
  total-run w h =
      let ends = end_lines p (span t w) in
      ap (both_totals (total_of (closed_lines t w))) (sym (few-lines ends (omega (arith, ends-few p (span t w)))))
      ∙ total-sum (closed_lines t w) ends
      ∙ ap total_of (sym (matching-ends t d.few p (accepting-of d) w h))

-- the span and the closed lines that are kept
pub count-span : (t : Query) (w : List ℕ) → (span_count t w).span ≡ span t w
unfolding span_count
count-span t w = refl

pub count-closed : (t : Query) (w : List ℕ) → (span_count t w).closed ≡ total_of (closed_lines t w)
unfolding span_count
count-closed t w = refl

-- it shows the pairs of its run
pub count-pairs : (t : Query) → atom_count t.tree ≤ 29 → (w : List ℕ) → pairs_in (span_count t w).span ≡ pairs t w
unfolding span_count
count-pairs t few w = pairs_of t few w

-- and the pattern's states
pub count-size : (t : Query) (w : List ℕ) → (span_count t w).span.s ≡ states t
unfolding span_count
count-size t w = span-size t w

-- what is made has at most 32 states
pub empty-small : (s : ℕ) → (empty_count s).span.s ≤ 32
empty-small s = states-few s

pub extended-small : (keys enter : List ℕ) (p : Accepting) (a : SpanCount) (k : ℕ) → (extended_count keys enter p a k).span.s ≤ 32
unfolding extended_count
extended-small keys enter p a k = extended-few keys enter p a.span k

pub joined_small : (a b : SpanCount) → (joined_counts a b).span.s ≤ 32
unfolding joined_counts
joined_small a b = joined-few a.span b.span

-- The edges, flat and back.
low_bit : (a b : Bool) → bit (cond a 1 0 + cond b 2 0) 0 ≡ a
low_bit a b = bit-first (cond a 1 0 + cond b 2 0) ∙ go a b
  where
    go : (a b : Bool) → eqb ((cond a 1 0 + cond b 2 0) % 2) 1 ≡ a
    go true true = refl
    go true false = refl
    go false true = refl
    go false false = refl

high_bit : (a b : Bool) → bit (cond a 1 0 + cond b 2 0) 1 ≡ b
high_bit a b = sym (bit-half (cond a 1 0 + cond b 2 0) 0) ∙ bit-first ((cond a 1 0 + cond b 2 0) / 2) ∙ go a b
  where
    go : (a b : Bool) → eqb ((cond a 1 0 + cond b 2 0) / 2 % 2) 1 ≡ b
    go true true = refl
    go true false = refl
    go false true = refl
    go false false = refl

edges-back : (e : Edges) → edges_in e.trimmed (edges_word e) ≡ e
edges-back e = rw (low_bit e.leading e.trailing, high_bit e.leading e.trailing) refl

-- Flat and back, where there is no closed line without a line end.
pub in-flat : (a : SpanCount) → (a.span.ended ≡ false → a.closed ≡ Some 0) → in_report (report_of a) ≡ a
unfolding in_report report_of
in-flat a none = both (ended a.span.ended a.closed) (edges-back a.span.edges) (closed a.span.ended a.closed none)
  where
    ended : (b : Bool) (n : Option ℕ) → not (eqb (flag_of b n) 0) ≡ b
    ended false n = refl
    ended true (Some k) = refl
    ended true None = refl

    closed : (b : Bool) (n : Option ℕ) → (b ≡ false → n ≡ Some 0) → closed_in (flat (flag_of b n) (shown_of b n) a) ≡ n
    closed false n e = sym (e refl)
    closed true (Some k) e = refl
    closed true None e = refl

    both : {b : Bool} {d : Edges} {n : Option ℕ} → b ≡ a.span.ended → d ≡ a.span.edges → n ≡ a.closed
        → record { span = record { s = a.span.s; rows = a.span.rows; ended = b; heads = a.span.heads; tail = a.span.tail; edges = d }; closed = n } ≡ a
    both e g f = rw (e, g, f) refl

-- the report of a run is what is kept of it, flat
pub report-is : (t : Query) (w : List ℕ) → report_of (span_count t w) ≡ report t w
unfolding report
report-is t w = refl

-- and holds it
pub in-report : (t : Query) (w : List ℕ) → in_report (report t w) ≡ span_count t w
unfolding report span_count
in-report t w = in-flat (span_count t w) (λ e. rw (closed_none t w e) refl)

-- the number of states of a report
pub report-size : (t : Query) (w : List ℕ) → (report t w).s ≡ states t
unfolding report report_of
report-size t w = count-size t w

module _ (t : Query) (few : atom_count t.tree ≤ 29) where
  -- Joining the reports of u and of v gives the report of u followed by v.
  pub join-reports : (u v : List ℕ) → is_run u ≡ true → is_run v ≡ true → joined_reports (report t u) (report t v) ≡ report t (u ++ v)
  unfolding joined_reports report
  join-reports u v g h = rw (in-report t u, in-report t v, join-counts t few u v g h) refl
