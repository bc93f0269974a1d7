-- Document 01, "Reports", with document 02, S-4: the work words of a report.
use Rattle.std.specs.Prelude.{ℕ, ◌+◌, ◌-◌, Bool, ◌&&◌, cond, List, [], ◌∷◌, ◌++◌, leb, length, get_or, take, drop, replicate}
use Rattle.reports.specs.declared.report.Report.{Report}
use Rattle.reports.specs.Reports.{no_report}

-- how many words stand behind the s rows
abbrev pub behind_rows : ℕ
behind_rows = 6

-- "rows, flag, heads, closed, tail"; "two more work words a macro, after tail"
abbrev pub report_words : Report → List ℕ
report_words r = take r.s r.rows ++ (r.flag ∷ r.heads ∷ r.closed ∷ r.tail ∷ r.trimmed ∷ r.edges ∷ [])

-- a report of s states read back from its words
abbrev pub loaded : ℕ → List ℕ → Report
loaded s w =
    record {
      s = s;
      rows = take s w ++ replicate (32 - s) 0;
      flag = get_or w s 0;
      heads = get_or w (s + 1) 0;
      closed = get_or w (s + 2) 0;
      tail = get_or w (s + 3) 0;
      trimmed = get_or w (s + 4) 0;
      edges = get_or w (s + 5) 0;
    }

-- n words hold those of a report of s states from `at` on
abbrev pub room_for : ℕ → ℕ → ℕ → Bool
room_for n at s = leb s 32 && leb (at + (s + behind_rows)) n

-- the report whose words start at a place, or zeros where they are not all there
abbrev pub loaded_at : List ℕ → ℕ → ℕ → Report
loaded_at w at s = cond (room_for (length w) at s) (loaded s (drop at w)) no_report

-- the words with those of a report from a place on
abbrev pub words_with : List ℕ → ℕ → Report → List ℕ
words_with w at r = take at w ++ (report_words r ++ drop (at + (r.s + behind_rows)) w)

-- the same, or the words as they were where there is no room for all of them
abbrev pub stored_at : List ℕ → ℕ → Report → List ℕ
stored_at w at r = cond (room_for (length w) at r.s) (words_with w at r) w
