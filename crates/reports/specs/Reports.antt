-- Document 01, "Reports", with document 02, S-4: a report is a span and the number of its closed lines, flat; and the joining of two reports.
use Rattle.std.specs.Prelude.{ℕ, ◌+◌, Bool, true, false, not, cond, ◌&&◌, List, Option, Some, None, leb, eqb}
use Rattle.pattern.specs.Meaning.{Query}
use Rattle.pattern.specs.declared.automaton.Accepting.{Accepting}
use Rattle.stateset.specs.Set.{bit}
use Rattle.spans.specs.declared.span.Span.{Span}
use Rattle.spans.specs.declared.span.Edges.{Edges}
use Rattle.spans.specs.declared.span.JoinedSpan.{JoinedSpan}
use Rattle.spans.specs.Spans.{no_rows, span, closed_lines}
use Rattle.spans.specs.Joining.{empty_span, joined_spans, extended_span, end_lines}
use Rattle.reports.specs.declared.report.Report.{Report}
use Rattle.reports.specs.declared.span_count.SpanCount.{SpanCount}
use Rattle.reports.specs.Totals.{total_of, both_totals, line_if}

-- a run's span, and how many closed lines it has
unfoldable pub span_count : Query → List ℕ → SpanCount
span_count t w = record { span = span t w; closed = total_of (closed_lines t w) }

-- "a flag, 0 without LF, 1 with one, 2 with one and closed lines beyond 2^64 − 1"
abbrev pub flag_of : Bool → Option ℕ → ℕ
flag_of false n = 0
flag_of true (Some n) = 1
flag_of true None = 2

-- "Flag 0: .. closed .. 0"; "Flag 2: closed is 0"
abbrev pub shown_of : Bool → Option ℕ → ℕ
shown_of false n = 0
shown_of true (Some n) = n
shown_of true None = 0

-- "1 if the run begins with LF, plus 2 if it ends in CR"
abbrev pub edges_word : Edges → ℕ
edges_word e = cond e.leading 1 0 + cond e.trailing 2 0

-- the fields of a report
abbrev pub flat : ℕ → ℕ → SpanCount → Report
flat flag closed a =
    record {
      s = a.span.s;
      rows = a.span.rows;
      flag = flag;
      heads = a.span.heads;
      closed = closed;
      tail = a.span.tail;
      trimmed = a.span.edges.trimmed;
      edges = edges_word a.span.edges;
    }

unfoldable pub report_of : SpanCount → Report
report_of a = flat (flag_of a.span.ended a.closed) (shown_of a.span.ended a.closed) a

-- the report of a run
unfoldable pub report : Query → List ℕ → Report
report t w = report_of (span_count t w)

-- Operations on any numbers. Closed lines that a caller says of a run without a line end are added up like any others.

-- a span after n closed lines, and the line that it closes
abbrev pub with_line : JoinedSpan → Option ℕ → SpanCount
with_line j n = record { span = j.span; closed = both_totals n (line_if j.closes) }

-- the empty run, of a pattern with s states
abbrev pub empty_count : ℕ → SpanCount
empty_count s = record { span = empty_span s; closed = Some 0 }

-- one key more, by any tables (`extend-count`)
unfoldable pub extended_count : List ℕ → List ℕ → Accepting → SpanCount → ℕ → SpanCount
extended_count keys enter p a k = with_line (extended_span keys enter p a.span k) a.closed

-- one run after the other (`join-counts`)
unfoldable pub joined_counts : SpanCount → SpanCount → SpanCount
joined_counts a b = with_line (joined_spans a.span b.span) (both_totals a.closed b.closed)

-- the matching lines of a run: the closed ones, and those at the two ends (`total-run`)
unfoldable pub total_in : Accepting → SpanCount → Option ℕ
total_in p a = both_totals a.closed (Some (end_lines p a.span))

-- Joining reports: "it ignores rows and state bits at s and above and fields that the flag empties; a flag over 2 is read as 2". What it makes of
-- the two words of S-4 stands in docs/JOINING.md.

-- the closed lines in a report
abbrev pub closed_in : Report → Option ℕ
closed_in a = cond (eqb a.flag 0) (Some 0) (cond (leb 2 a.flag) None (Some a.closed))

-- the edges in its two last words: of the second the bits of value 1 and 2 are read, and no others
abbrev pub edges_in : ℕ → ℕ → Edges
edges_in x w = record { trimmed = x; leading = bit w 0; trailing = bit w 1 }

abbrev pub span_in : Report → Span
span_in a = record { s = a.s; rows = a.rows; ended = not (eqb a.flag 0); heads = a.heads; tail = a.tail; edges = edges_in a.trimmed a.edges }

-- the span in a report, and its closed lines
unfoldable pub in_report : Report → SpanCount
in_report a = record { span = span_in a; closed = closed_in a }

-- that this is "the report of the two runs one after the other" is the theorem `join-reports`
unfoldable pub joined_reports : Report → Report → Report
joined_reports a b = report_of (joined_counts (in_report a) (in_report b))

-- they are of one size, and not "under 3 or over 32"
abbrev pub alike : Report → Report → Bool
alike a b = eqb a.s b.s && (leb 3 a.s && leb a.s 32)

-- "A refusal's other numbers are 0"
abbrev pub no_report : Report
no_report = record { s = 0; rows = no_rows; flag = 0; heads = 0; closed = 0; tail = 0; trimmed = 0; edges = 0 }
