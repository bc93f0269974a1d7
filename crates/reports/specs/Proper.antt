-- Document 02, S-7: the reports that joining may group at will, and the report of the empty run. The law itself is `join-assoc`.
use Rattle.std.specs.Prelude.{ℕ, ◌^◌, ◌<◌, ◌≤◌, ◌≡◌, eqb, length, get_or}
use Rattle.spans.specs.Spans.{rows_of, no_rows}
use Rattle.reports.specs.declared.report.Report.{Report}
use Rattle.reports.specs.Totals.{most}

-- a report that keeps the rules of its fields; a set of states below s is a number below 2^s
pub record Canonical (s : ℕ) (r : Report) : Type 0 where
  -- "with the same s, from 3 to 32"
  pub size : r.s ≡ s
  pub least : 3 ≤ s
  pub largest : s ≤ 32
  -- "no rows or state bits set at s or above"
  pub rows_above : (q : ℕ) → s ≤ q → q < 32 → get_or r.rows q 0 ≡ 0
  pub rows_below : (q : ℕ) → q < s → get_or r.rows q 0 < 2 ^ s
  pub heads_below : r.heads < 2 ^ s
  pub tail_below : r.tail < 2 ^ s
  -- "a flag up to 2"
  pub flag_up_to : r.flag ≤ 2
  -- "Flag 0: heads, closed, tail are 0"
  pub no_heads : r.flag ≡ 0 → r.heads ≡ 0
  pub no_closed : r.flag ≡ 0 → r.closed ≡ 0
  pub no_tail : r.flag ≡ 0 → r.tail ≡ 0
  -- "Flag 1 or 2: rows are 0"
  pub rows_emptied : 0 < r.flag → r.rows ≡ no_rows
  -- "Flag 2: closed is 0"
  pub closed_emptied : r.flag ≡ 2 → r.closed ≡ 0
  -- what the types of the code give: 32 rows, and a number of 64 bits
  pub rows_long : length r.rows ≡ 32
  pub closed_fits : r.closed ≤ most

-- "and S-4's words 0"
pub record Proper (s : ℕ) (r : Report) : Type 0 where
  pub canonical : Canonical s r
  pub trimmed_zero : r.trimmed ≡ 0
  pub edges_zero : r.edges ≡ 0

-- "The report of the empty run, each state reaching itself and S-4's words 0"
abbrev pub empty_report : ℕ → Report
empty_report s = record { s = s; rows = rows_of s (λ q p. eqb q p); flag = 0; heads = 0; closed = 0; tail = 0; trimmed = 0; edges = 0 }
