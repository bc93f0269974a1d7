-- What the functions make of their parts.
use Prim.Native.Nat.{ℕ, ◌/◌, ◌%◌}
use mathlib.Core.Path.{◌≡◌, refl}
use mathlib.Core.Bool.{Bool, true, false, not}
use mathlib.Core.List.{List}
use lib.Dec.{eqb}
use Rattle.pattern.specs.declared.automaton.Accepting.{Accepting}
use Rattle.stateset.proofs.Sets.{bit-first, bit-half}
use Rattle.spans.specs.declared.span.Span.{Span}
use Rattle.spans.specs.declared.span.Edges.{Edges}
use Rattle.spans.specs.declared.span.JoinedSpan.{JoinedSpan}
use Rattle.spans.specs.Joining.{joined_spans, extended_span, end_lines}
use Rattle.reports.specs.declared.report.Report.{Report}
use Rattle.reports.specs.declared.span_count.SpanCount.{SpanCount}
use Rattle.std.specs.Prelude.{Option, Some, None}
use Rattle.reports.specs.Totals.{both_totals}
use Rattle.reports.specs.Reports.{edges_word, edges_in, report_of, with_line, extended_count, joined_counts, total_in, closed_in, in_report, joined_reports, alike}
use Rattle.refusal.specs.Figures.{answered}
use Rattle.reports.specs.Answers.{join_result}

pub extended-made : (keys enter : List ℕ) (p : Accepting) (a : SpanCount) (k : ℕ) {j : JoinedSpan} {r : SpanCount}
    → j ≡ extended_span keys enter p a.span k → r ≡ with_line j a.closed → r ≡ extended_count keys enter p a k
unfolding extended_count
extended-made keys enter p a k j r = rw (r, j) refl

pub joined_made : (a b : SpanCount) {j : JoinedSpan} {n : Option ℕ} {r : SpanCount}
    → n ≡ both_totals a.closed b.closed → j ≡ joined_spans a.span b.span → r ≡ with_line j n → r ≡ joined_counts a b
unfolding joined_counts
joined_made a b n j r = rw (r, n, j) refl

pub total_made : (p : Accepting) (a : SpanCount) {n : ℕ} {r : Option ℕ} → n ≡ end_lines p a.span → r ≡ both_totals a.closed (Some n) → r ≡ total_in p a
unfolding total_in
total_made p a n r = rw (r, n) refl

module _ (a : Report) where
  -- with the span
  abbrev pub span_where : Bool → Edges → Span
  span_where b d = record { s = a.s; rows = a.rows; ended = b; heads = a.heads; tail = a.tail; edges = d }

  pub in-made : {d : Edges} {c : Option ℕ} → d ≡ edges_in a.trimmed a.edges → c ≡ closed_in a → record { span = span_where (not (eqb a.flag 0)) d; closed = c } ≡ in_report a
  unfolding in_report
  in-made d c = rw (d, c) refl

-- flat
module _ (a : SpanCount) where
  -- with the second word of its edges
  abbrev pub flat_with : ℕ → ℕ → ℕ → Report
  flat_with w flag closed =
      record {
        s = a.span.s;
        rows = a.span.rows;
        flag = flag;
        heads = a.span.heads;
        closed = closed;
        tail = a.span.tail;
        trimmed = a.span.edges.trimmed;
        edges = w;
      }

  module _ {w : ℕ} (edged : w ≡ edges_word a.span.edges) where
    pub flat-open : a.span.ended ≡ false → flat_with w 0 0 ≡ report_of a
    unfolding report_of
    flat-open e = rw (edged, e) refl

    pub flat-lines : {k : ℕ} → a.span.ended ≡ true → a.closed ≡ Some k → flat_with w 1 k ≡ report_of a
    unfolding report_of
    flat-lines e f = rw (edged, e, f) refl

    pub flat-over : a.span.ended ≡ true → a.closed ≡ None → flat_with w 2 0 ≡ report_of a
    unfolding report_of
    flat-over e f = rw (edged, e, f) refl

pub edges-told : (x w : ℕ) → record { trimmed = x; leading = eqb (w % 2) 1; trailing = eqb (w / 2 % 2) 1 } ≡ edges_in x w
edges-told x w = rw (← bit-first w, ← bit-first (w / 2), bit-half w 0) refl

-- reports of one size are joined
pub join-made : (a b : Report) {x y z : SpanCount} {r : Report} → true ≡ alike a b → x ≡ in_report a → y ≡ in_report b → z ≡ joined_counts x y → r ≡ report_of z → answered r ≡ join_result a b
unfolding joined_reports
join-made a b e x y z r = rw (← e, r, z, x, y) refl
