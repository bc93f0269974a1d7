-- Words that no run gives, computed: there the law of joining does not hold.
use Prim.Native.Nat.{ℕ}
use mathlib.Core.Path.{◌≡◌, refl}
use mathlib.Core.List.{◌∷◌}
use lib.ListN.{replicate}
use Rattle.stateset.specs.Set.{bit, word, any_below}
use Rattle.stateset.specs.Tabled.{tabled}
use Rattle.spans.specs.Joining.{joined_edges, joined_spans}
use Rattle.reports.specs.declared.report.Report.{Report}
use Rattle.reports.specs.Reports.{report_of, joined_counts, in_report, joined_reports}
use Rattle.reports.specs.Answers.{join_result}

-- a report of three states without a line end, with the first of S-4's words
abbrev three : ℕ → ℕ → ℕ → ℕ → Report
three x y z trimmed = record { s = 3; rows = x ∷ y ∷ z ∷ replicate 29 0; flag = 0; heads = 0; closed = 0; tail = 0; trimmed = trimmed; edges = 0 }

-- The first has that word set, though its run would not end in CR. The second leads from line-start to found, and the third from found to
-- line-start: together they look like the empty run, and neither does alone.
pub words-differ : ((join_result (join_result (three 0 0 0 1) (three 4 0 0 0)).value (three 0 0 1 0)).value.trimmed ≡ 0) × ((join_result (three 0 0 0 1) (join_result (three 4 0 0 0) (three 0 0 1 0)).value).value.trimmed ≡ 1)
unfolding bit word any_below tabled joined_edges joined_spans report_of joined_counts in_report joined_reports
words-differ = (refl, refl)
