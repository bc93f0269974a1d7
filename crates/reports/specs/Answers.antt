-- What joining answers.
use Rattle.std.specs.Prelude.{Bool, cond, Result, Ok, Err}
use Rattle.refusal.specs.declared.Refusal.{Refusal}
use Rattle.refusal.specs.declared.Refusal.TheVariants.{ReportMismatch}
use Rattle.refusal.specs.Figures.{Figures, answered, refused_with}
use Rattle.reports.specs.declared.report.Report.{Report}
use Rattle.reports.specs.Reports.{alike, joined_reports, no_report}

-- a refusal's number and a report of zeros
abbrev pub refused_join : Refusal → Figures Report
refused_join r = refused_with no_report r

-- the figures of an answer
abbrev pub joined_figures : Result Report Refusal → Figures Report
joined_figures (Ok r) = answered r
joined_figures (Err r) = refused_join r

-- a joined report, or 13 and a report of zeros
abbrev pub joined_if : Bool → Report → Figures Report
joined_if b r = cond b (answered r) (refused_join ReportMismatch)

-- 13 where they are "unlike reports"
abbrev pub join_result : Report → Report → Figures Report
join_result a b = joined_if (alike a b) (joined_reports a b)
