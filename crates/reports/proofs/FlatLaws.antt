-- A report and the joining of two reports, field by field, as document 01 lists them, with document 02's two words.
use Prim.Native.Nat.{ℕ, suc, ◌+◌, ◌≤◌}
use native.Mathlib.Omega.{arith}
use mathlib.Core.Path.{◌≡◌, refl, sym, ap, ◌∙◌}
use mathlib.Core.Bool.{Bool, true, false, not, cond}
use mathlib.Core.List.{List, [], ◌∷◌}
use lib.Dec.{leb, eqb}
use lib.ListN.{get_or}
use Rattle.stateset.specs.Set.{bit, word}
use Rattle.pattern.specs.Meaning.{Query}
use Rattle.pattern.specs.Moves.{states, leads, accepted_from}
use Rattle.lines.specs.Lines.{trimmed, count_in, closed_matches}
use Rattle.lines.specs.Parts.{first_part, later_parts, parts_before, last_part}
use Rattle.spans.specs.declared.span.Span.{Span}
use Rattle.spans.specs.declared.span.Edges.{Edges}
use Rattle.spans.specs.declared.span.JoinedSpan.{JoinedSpan}
use Rattle.spans.specs.Spans.{rows_of, no_rows, open_span, ended_span, edges, span_with, closed_with}
use Rattle.spans.specs.Joining.{onward, heads_across, closes_across, joined_edges, joined_with}
use Rattle.spans.proofs.RowLaws.{states-all}
use Rattle.spans.proofs.SpanLaws.{span-by, closed-by, joined_by}
use Rattle.reports.specs.declared.report.Report.{Report}
use Rattle.reports.specs.declared.span_count.SpanCount.{SpanCount}
use Rattle.std.specs.Prelude.{Option, Some, None}
use Rattle.reports.specs.Totals.{most, total_of, both_totals}
use Rattle.reports.specs.Reports.{flag_of, shown_of, edges_word, span_in, span_count, report_of, report, with_line, joined_counts, closed_in, in_report, joined_reports}
use Rattle.reports.proofs.TotalLaws.{few-lines, many-lines, total-sum}
use Rattle.reports.proofs.ReportLaws.{with-line}

-- flag 0, "without LF": "heads, closed, tail are 0"
abbrev pub without_end : ℕ → (ℕ → ℕ → Bool) → Edges → Report
without_end s X d = record { s = s; rows = rows_of s X; flag = 0; heads = 0; closed = 0; tail = 0; trimmed = d.trimmed; edges = edges_word d }

-- flag "1 with one, 2 with one and closed lines beyond 2^64 − 1"; "Flag 1 or 2: rows are 0. Flag 2: closed is 0"
abbrev pub with_end : ℕ → (ℕ → Bool) → ℕ → (ℕ → Bool) → Edges → Report
with_end s H n T d =
    record {
      s = s;
      rows = no_rows;
      flag = cond (leb n most) 1 2;
      heads = word s H;
      closed = cond (leb n most) n 0;
      tail = word s T;
      trimmed = d.trimmed;
      edges = edges_word d;
    }

-- a span without a line end
pub open-flat : (s : ℕ) (X : ℕ → ℕ → Bool) (d : Edges) (n : Option ℕ) → report_of (record { span = open_span s X d; closed = n }) ≡ without_end s X d
unfolding report_of
open-flat s X d n = refl

-- one with a line end, and n closed lines
pub ended_flat : (s : ℕ) (H T : ℕ → Bool) (d : Edges) (n : ℕ) → report_of (record { span = ended_span s H T d; closed = total_of n }) ≡ with_end s H n T d
unfolding report_of
ended_flat s H T d n = go (leb n most)
  where
    fields : ℕ → ℕ → Report
    fields flag closed = record { s = s; rows = no_rows; flag = flag; heads = word s H; closed = closed; tail = word s T; trimmed = d.trimmed; edges = edges_word d }

    go : (b : Bool) → fields (flag_of true (cond b (Some n) None)) (shown_of true (cond b (Some n) None)) ≡ fields (cond b 1 2) (cond b n 0)
    go true = refl
    go false = refl

-- the report of a run
abbrev pub run_fields : Query → List ℕ → List (List ℕ) → Report
run_fields t w [] = without_end (states t) (λ q p. leads t q w p) (edges t w)
run_fields t w (l ∷ ls) = with_end (states t) (λ q. accepted_from t q (trimmed (first_part w))) (count_in (closed_matches t) (parts_before l ls)) (leads t 0 (last_part l ls)) (edges t w)

pub report-fields : (t : Query) (w : List ℕ) → report t w ≡ run_fields t w (later_parts w)
unfolding report span_count
report-fields t w = rw (span-by t w, closed-by t w) (go (later_parts w))
  where
    go : (ls : List (List ℕ)) → report_of (record { span = span_with t w ls; closed = total_of (closed_with t ls) }) ≡ run_fields t w ls
    go [] = open-flat (states t) (λ q p. leads t q w p) (edges t w) (total_of 0)
    go (l ∷ ls) = ended_flat (states t) (λ q. accepted_from t q (trimmed (first_part w))) (leads t 0 (last_part l ls)) (edges t w) (count_in (closed_matches t) (parts_before l ls))

-- the closed lines of a report with a line end; beyond the largest count where its flag says so
abbrev pub closed_number : Report → ℕ
closed_number a = cond (leb 2 a.flag) (suc most) a.closed

-- joining, by whether the left report has flag 0 and whether the right one has
abbrev pub joined_fields : ℕ → Bool → Bool → Report → Report → Report
joined_fields s true true a b = without_end s (λ q. onward s (get_or a.rows q 0) b.rows) (joined_edges s (span_in a) (span_in b))
joined_fields s true false a b = with_end s (heads_across s (span_in a) (span_in b)) (closed_number b) (bit b.tail) (joined_edges s (span_in a) (span_in b))
joined_fields s false true a b = with_end s (bit a.heads) (closed_number a) (onward s a.tail b.rows) (joined_edges s (span_in a) (span_in b))
joined_fields s false false a b =
    with_end s
    (bit a.heads)
    (closed_number a + closed_number b + cond (closes_across s (span_in a) (span_in b)) 1 0)
    (bit b.tail)
    (joined_edges s (span_in a) (span_in b))

-- the number of closed lines in a report whose flag is 0, or is not
module _ (a : Report) (small : a.closed ≤ most) where
  number : (x : Bool) → eqb a.flag 0 ≡ x → closed_in a ≡ total_of (cond x 0 (closed_number a))
  number true e = rw e refl
  number false e = rw e (go (leb 2 a.flag))
    where
      go : (b : Bool) → cond b None (Some a.closed) ≡ total_of (cond b (suc most) a.closed)
      go true = sym (many-lines (suc most) (omega arith))
      go false = sym (few-lines a.closed small)

pub joined-fields : (a b : Report) → a.s ≤ 32 → a.closed ≤ most → b.closed ≤ most → joined_reports a b ≡ joined_fields a.s (eqb a.flag 0) (eqb b.flag 0) a b
unfolding joined_reports joined_counts in_report report_of
joined-fields a b small f g = go (eqb a.flag 0) (eqb b.flag 0) refl refl
  where
    s : ℕ
    s = a.s

    left : Span
    left = (in_report a).span

    right : Span
    right = (in_report b).span

    -- from the numbers of both
    sums : (j : JoinedSpan) (m n : ℕ) → closed_in a ≡ total_of m → closed_in b ≡ total_of n
        → with_line j (both_totals (closed_in a) (closed_in b)) ≡ record { span = j.span; closed = total_of (m + n + cond j.closes 1 0) }
    sums j m n e h =
        let both : both_totals (closed_in a) (closed_in b) ≡ total_of (m + n) = rw (e, h) (total-sum m n) in
        ap (with_line j) both ∙ with-line j.span j.closes (m + n) (m + n + cond j.closes 1 0) refl

    go : (x y : Bool) → eqb a.flag 0 ≡ x → eqb b.flag 0 ≡ y → joined_reports a b ≡ joined_fields s x y a b
    go x y d e =
        let m : ℕ = cond x 0 (closed_number a) in
        let n : ℕ = cond y 0 (closed_number b) in
        let same =
        joined_by left right
        ∙ ap (λ (k : ℕ). joined_with k (not (eqb a.flag 0)) (not (eqb b.flag 0)) left right) (states-all s small)
        ∙ ap (λ (z : Bool). joined_with s (not z) (not (eqb b.flag 0)) left right) d
        ∙ ap (λ (z : Bool). joined_with s (not x) (not z) left right) e in
        ap (λ (j : JoinedSpan). report_of (with_line j (both_totals (closed_in a) (closed_in b)))) same
        ∙ ap report_of (sums (joined_with s (not x) (not y) left right) m n (number a f x d) (number b g y e))
        ∙ by x y
      where
        -- a span and n closed lines
        kept : JoinedSpan → ℕ → SpanCount
        kept j n = record { span = j.span; closed = total_of (n + cond j.closes 1 0) }

        by : (x y : Bool) → report_of (kept (joined_with s (not x) (not y) left right) (cond x 0 (closed_number a) + cond y 0 (closed_number b))) ≡ joined_fields s x y a b
        by true true = refl
        by true false =
            let k = closed_number b in
            let all : 0 + k + 0 ≡ k = omega arith in
            rw all (ended_flat s (heads_across s left right) (bit b.tail) (joined_edges s left right) k)
        by false true =
            let k = closed_number a in
            let all : k + 0 + 0 ≡ k = omega arith in
            rw all (ended_flat s (bit a.heads) (onward s a.tail b.rows) (joined_edges s left right) k)
        by false false = ended_flat s (bit a.heads) (bit b.tail) (joined_edges s left right) (closed_number a + closed_number b + cond (closes_across s left right) 1 0)
