-- Laws of the words of a report: read back, they are the report.
use Prim.Native.Nat.{ℕ, ◌+◌, ◌-◌, ◌≤◌}
use native.Mathlib.Omega.{arith}
use mathlib.Core.Path.{◌≡◌, refl, sym, ap, ◌∙◌}
use mathlib.Core.List.{List, [], ◌∷◌, ◌++◌, append_assoc}
use borrow.Author.Tests.{le-leb}
use lib.ListN.{length, get_or, take, drop, replicate, length-append, length-take, length-drop}
use lib.Seq.{take_at, get_or_at, get_or-append-add}
use Rattle.pattern.specs.Meaning.{Query}
use Rattle.pattern.specs.Form.{atom_count}
use Rattle.pattern.specs.Moves.{states}
use Rattle.spans.specs.Spans.{span}
use Rattle.spans.proofs.SpanLaws.{span-rows, span-padded}
use Rattle.reports.specs.declared.report.Report.{Report}
use Rattle.reports.specs.Reports.{span_count, report_of, report}
use Rattle.reports.specs.Words.{behind_rows, report_words, loaded, loaded_at, words_with, stored_at}
use Rattle.reports.proofs.ReportLaws.{report-size}

-- the words of a report, and the report of its words
module _ (s : ℕ) (rows : List ℕ) (f h c e x d : ℕ) (small : s ≤ 32) (long : length rows ≡ 32) where
  -- the report of these
  abbrev made : Report
  made = record { s = s; rows = rows; flag = f; heads = h; closed = c; tail = e; trimmed = x; edges = d }

  taken-length : length (take s rows) ≡ s
  taken-length = rw (length-take, long) (omega arith)

  made-length : length (report_words made) ≡ s + behind_rows
  made-length = rw (length-append, taken-length) refl

  made-loaded : (rest : List ℕ) → take s rows ++ replicate (32 - s) 0 ≡ rows → loaded s (report_words made ++ rest) ≡ made
  made-loaded rest p =
      rw (append_assoc (take s rows) (f ∷ h ∷ c ∷ e ∷ x ∷ d ∷ []) rest)
      (same (ap (λ (l : List ℕ). l ++ replicate (32 - s) 0) (take_at (take s rows) words s taken-length) ∙ p) (get_or_at (take s rows) f (h ∷ c ∷ e ∷ x ∷ d ∷ rest) 0 s taken-length) (entry 1) (entry 2) (entry 3) (entry 4) (entry 5))
    where
      words : List ℕ
      words = f ∷ h ∷ c ∷ e ∷ x ∷ d ∷ rest

      entry : (k : ℕ) → get_or (take s rows ++ words) (s + k) 0 ≡ get_or words k 0
      entry k = ap (λ (n : ℕ). get_or (take s rows ++ words) (n + k) 0) (sym taken-length) ∙ get_or-append-add (take s rows) words k 0

      same : {l : List ℕ} {a b i j k o : ℕ} → l ≡ rows → a ≡ f → b ≡ h → i ≡ c → j ≡ e → k ≡ x → o ≡ d
          → ◌≡◌ {A = Report} (record { s = s; rows = l; flag = a; heads = b; closed = i; tail = j; trimmed = k; edges = o }) made
      same l a b i j k o = rw (l, a, b, i, j, k, o) refl

module _ (t : Query) (few : atom_count t.tree ≤ 29) (w : List ℕ) where
  -- its fields, and how many states there are
  abbrev sized : ℕ → Report
  sized n =
      record {
        s = n;
        rows = (report t w).rows;
        flag = (report t w).flag;
        heads = (report t w).heads;
        closed = (report t w).closed;
        tail = (report t w).tail;
        trimmed = (report t w).trimmed;
        edges = (report t w).edges;
      }

  whole : report t w ≡ sized (states t)
  whole = ap sized (report-size t w)

  rows_in : (report t w).rows ≡ (span t w).rows
  unfolding report report_of span_count
  rows_in = refl

  pub words-length : length (report_words (report t w)) ≡ states t + behind_rows
  words-length =
      ap (λ (r : Report). length (report_words r)) whole
      ∙ made-length (states t) (report t w).rows _ _ _ _ _ _ (omega arith) (ap length rows_in ∙ span-rows t w)

  loaded-words : (rest : List ℕ) → loaded (states t) (report_words (report t w) ++ rest) ≡ report t w
  loaded-words rest =
      ap (λ (r : Report). loaded (states t) (report_words r ++ rest)) whole
      ∙ made-loaded (states t) (report t w).rows _ _ _ _ _ _ (omega arith) (ap length rows_in ∙ span-rows t w) rest (rw rows_in (span-padded t few w))
      ∙ sym whole

  -- the report that stands at a place
  pub loaded-from : (work behind : List ℕ) (at : ℕ) → drop at work ≡ report_words (report t w) ++ behind → loaded_at work at (states t) ≡ report t w
  loaded-from work behind at e =
      let left : length work - at ≡ states t + behind_rows + length behind = sym (length-drop at work) ∙ ap length e ∙ length-append (report_words (report t w)) behind ∙ ap (λ (n : ℕ). n + length behind) words-length in
      let small : states t ≤ 32 = omega arith in
      let room : at + (states t + behind_rows) ≤ length work = omega arith in
      rw (le-leb (states t) 32 small, le-leb (at + (states t + behind_rows)) (length work) room) (ap (loaded (states t)) e ∙ loaded-words behind)

-- a report that there is room for is stored
pub stored_there : (work : List ℕ) (at : ℕ) (r : Report) → r.s ≤ 32 → at + (r.s + behind_rows) ≤ length work → stored_at work at r ≡ words_with work at r
stored_there work at r h l = rw (le-leb r.s 32 h, le-leb (at + (r.s + behind_rows)) (length work) l) refl
