-- Document 02, S-7: joining may be grouped at will. Theorems about the definition that `join` is proved to answer, `join_result`.
use Prim.Native.Nat.{ℕ, ◌+◌, ◌^◌, ◌<◌, ◌≤◌}
use native.Mathlib.Omega.{arith}
use mathlib.Core.Path.{◌≡◌, refl, sym, ap, ◌∙◌}
use mathlib.Core.Logic.{◌↔◌}
use mathlib.Core.Bool.{Bool, true, false, cond, ◌&&◌}
use mathlib.Core.List.{List, [], ◌∷◌, ◌++◌, append_assoc, append-nil}
use lib.Dec.{leb, eqb}
use lib.Pow.{pow_pos}
use borrow.Author.Tests.{leb-true, le-leb, eq-eqb}
use Rattle.runs.specs.Keys.{is_run}
use Rattle.runs.proofs.Tests.{and_both}
use Rattle.runs.proofs.KeyLaws.{run-append}
use Rattle.runs.proofs.KeptLaws.{zeros-at}
use Rattle.stateset.specs.Set.{word}
use Rattle.stateset.proofs.Sets.{word_lt}
use Rattle.letters.specs.declared.Case.{Case}
use Rattle.pattern.specs.Form.{Pattern}
use Rattle.pattern.specs.Meaning.{Query, query}
use Rattle.pattern.specs.Moves.{states, leads, accepted_from}
use Rattle.pattern.specs.Reader.{read_pattern, accepted}
use Rattle.pattern.proofs.Readings.{accepted-few}
use Rattle.lines.specs.Parts.{begins_with_end, first_part, later_parts, parts_before, last_part}
use Rattle.lines.specs.Lines.{trimmed, ends_in_return, count_in, closed_matches}
use Rattle.spans.specs.declared.span.Edges.{Edges}
use Rattle.spans.specs.Spans.{no_rows, open_span, edges}
use Rattle.spans.specs.Joining.{no_edges}
use Rattle.spans.proofs.RowLaws.{states-all, row_of, rows_long_lem, row-above}
use Rattle.spans.proofs.EdgeLaws.{span-edges, edges-begin, edges-finish, edges-below, edges-plain}
use Rattle.refusal.specs.Figures.{Figures, answered}
use Rattle.reports.specs.declared.report.Report.{Report}
use Rattle.reports.specs.Totals.{most, total_of}
use Rattle.reports.specs.Reports.{span_count, edges_word, report_of, report, empty_count, joined_reports, alike}
use Rattle.reports.specs.Answers.{join_result}
use Rattle.reports.specs.Proper.{Canonical, Proper, empty_report}
use Rattle.reports.proofs.ReportLaws.{empty-count, report-is, report-size, join-reports}
use Rattle.reports.proofs.FlatLaws.{without_end, with_end, open-flat, ended_flat, run_fields, report-fields}
use Rattle.reports.proofs.EffectLaws.{Effect, within, across, shown, and_then, then-assoc, then-left, then-right, shown-join, proper-shown}

-- Reports by their fields keep the rules.
module _ (s : ℕ) (low : 3 ≤ s) (high : s ≤ 32) (d : Edges) where
  open-canonical : (X : ℕ → ℕ → Bool) → Canonical s (without_end s X d)
  open-canonical X =
      record {
        size = refl;
        least = low;
        largest = high;
        rows_above = λ q h l. row-above s X q h;
        rows_below = λ q h. rw (row_of s X q h high) (word_lt s (X q));
        heads_below = pow_pos s;
        tail_below = pow_pos s;
        flag_up_to = omega arith;
        no_heads = λ e. refl;
        no_closed = λ e. refl;
        no_tail = λ e. refl;
        rows_emptied = λ h. absurd (omega arith);
        closed_emptied = λ e. refl;
        rows_long = rows_long_lem s X;
        closed_fits = omega arith;
      }

  ended-canonical : (H : ℕ → Bool) (n : ℕ) (T : ℕ → Bool) → Canonical s (with_end s H n T d)
  ended-canonical H n T = go (leb n most) refl
    where
      some : (b : Bool) → ◌≡◌ {A = ℕ} (cond b 1 2) 0 → ⊥
      some true e = omega arith
      some false e = omega arith

      up : (b : Bool) → cond b 1 2 ≤ 2
      up true = omega arith
      up false = omega arith

      none : (b : Bool) → ◌≡◌ {A = ℕ} (cond b 1 2) 2 → ◌≡◌ {A = ℕ} (cond b n 0) 0
      none true e = absurd (omega arith)
      none false e = refl

      fits : (b : Bool) → leb n most ≡ b → cond b n 0 ≤ most
      fits true e = leb-true n most e
      fits false e = omega arith

      go : (b : Bool) → leb n most ≡ b
          → Canonical s (record { s = s; rows = no_rows; flag = cond b 1 2; heads = word s H; closed = cond b n 0; tail = word s T; trimmed = d.trimmed; edges = edges_word d })
      go b e =
          record {
            size = refl;
            least = low;
            largest = high;
            rows_above = λ q h l. zeros-at 32 q;
            rows_below = λ q h. rw (zeros-at 32 q) (pow_pos s);
            heads_below = word_lt s H;
            tail_below = word_lt s T;
            flag_up_to = up b;
            no_heads = λ i. absurd (some b i);
            no_closed = λ i. absurd (some b i);
            no_tail = λ i. absurd (some b i);
            rows_emptied = λ h. refl;
            closed_emptied = none b;
            rows_long = refl;
            closed_fits = fits b e;
          }

-- So what effects show is proper.
shown-proper : (s : ℕ) → 3 ≤ s → s ≤ 32 → (x : Effect) → Proper s (shown s x)
shown-proper s low high (within X) = rw (open-flat s X no_edges (total_of 0)) (record { canonical = open-canonical s low high no_edges X; trimmed_zero = refl; edges_zero = refl })
shown-proper s low high (across H n T) = rw (ended_flat s H T no_edges n) (record { canonical = ended-canonical s low high no_edges H n T; trimmed_zero = refl; edges_zero = refl })

-- Reports of one size, from 3 to 32, are joined.
alike-by : (s : ℕ) (a b : Report) → 3 ≤ s → s ≤ 32 → a.s ≡ s → b.s ≡ s → alike a b ≡ true
alike-by s a b low high e f =
    and_both (eqb a.s b.s) (leb 3 a.s && leb a.s 32) (eq-eqb a.s b.s (e ∙ sym f))
    (and_both (leb 3 a.s) (leb a.s 32) (le-leb 3 a.s (omega arith)) (le-leb a.s 32 (omega arith)))

joined_by : (s : ℕ) (a b : Report) → 3 ≤ s → s ≤ 32 → a.s ≡ s → b.s ≡ s → join_result a b ≡ answered (joined_reports a b)
joined_by s a b low high e f = rw (alike-by s a b low high e f) refl

-- "The report of the empty run, each state reaching itself and S-4's words 0" is proper,
pub empty-proper : (s : ℕ) → 3 ≤ s → s ≤ 32 → Proper s (empty_report s)
empty-proper s low high = record { canonical = open-canonical s low high no_edges (λ q p. eqb q p); trimmed_zero = refl; edges_zero = refl }

-- and is what `report_of` makes of `empty_count`.
pub empty-made : (s : ℕ) → s ≤ 32 → report_of (empty_count s) ≡ empty_report s
empty-made s high =
    ap (λ (k : ℕ). report_of (record { span = open_span k (λ q p. eqb q p) no_edges; closed = total_of 0 })) (states-all s high) ∙ open-flat s (λ q p. eqb q p) no_edges (total_of 0)

-- Two proper reports of one s are joined,
pub proper-joined : {s : ℕ} {a b : Report} → Proper s a → Proper s b → join_result a b ≡ answered (joined_reports a b)
proper-joined {s} {a} {b} p q = joined_by s a b p.canonical.least p.canonical.largest p.canonical.size q.canonical.size

-- with the one effect and then the other,
joined-shown : (s : ℕ) → s ≤ 32 → {a b : Report} (x y : Effect) → a ≡ shown s x → b ≡ shown s y → joined_reports a b ≡ shown s (and_then s x y)
joined-shown s high x y e f = rw (e, f) (shown-join s high x y)

result-shown : {s : ℕ} {a b : Report} → Proper s a → Proper s b → (x y : Effect) → a ≡ shown s x → b ≡ shown s y → (join_result a b).value ≡ shown s (and_then s x y)
result-shown {s} p q x y e f = ap (λ (j : Figures Report). j.value) (proper-joined p q) ∙ joined-shown s p.canonical.largest x y e f

-- and the report that this gives is proper.
pub join-proper : {s : ℕ} {a b : Report} → Proper s a → Proper s b → Proper s (join_result a b).value
join-proper {s} {a} {b} p q =
    let x = proper-shown s a p in
    let y = proper-shown s b q in
    rw (result-shown p q x.0 y.0 x.1 y.1) (shown-proper s p.canonical.least p.canonical.largest (and_then s x.0 y.0))

-- "joining the first two and then the third gives the same report as joining the last two first"
pub join-assoc : {s : ℕ} {a b c : Report} → Proper s a → Proper s b → Proper s c → join_result (join_result a b).value c ≡ join_result a (join_result b c).value
join-assoc {s} {a} {b} {c} p q r =
    let x = proper-shown s a p in
    let y = proper-shown s b q in
    let z = proper-shown s c r in
    let small = p.canonical.largest in
    proper-joined (join-proper p q) r
    ∙ ap answered
    (joined-shown s small (and_then s x.0 y.0) z.0 (result-shown p q x.0 y.0 x.1 y.1) z.1
    ∙ then-assoc s x.0 y.0 z.0
    ∙ sym (joined-shown s small x.0 (and_then s y.0 z.0) x.1 (result-shown q r y.0 z.0 y.1 z.1)))
    ∙ sym (proper-joined p (join-proper q r))

-- "The report of the empty run, each state reaching itself and S-4's words 0, changes nothing on either side."
abbrev identity : Effect
identity = within (λ q p. eqb q p)

empty-shown : (s : ℕ) → empty_report s ≡ shown s identity
empty-shown s = sym (open-flat s (λ q p. eqb q p) no_edges (total_of 0))

module _ {s : ℕ} {a : Report} (p : Proper s a) where
  empty-is : Proper s (empty_report s)
  empty-is = empty-proper s p.canonical.least p.canonical.largest

  pub join-empty-left : join_result (empty_report s) a ≡ answered a
  join-empty-left =
      let x = proper-shown s a p in
      proper-joined empty-is p ∙ ap answered (joined-shown s p.canonical.largest identity x.0 (empty-shown s) x.1 ∙ then-left s x.0 ∙ sym x.1)

  pub join-empty-right : join_result a (empty_report s) ≡ answered a
  join-empty-right =
      let x = proper-shown s a p in
      proper-joined p empty-is ∙ ap answered (joined-shown s p.canonical.largest x.0 identity x.1 (empty-shown s) ∙ then-right s x.0 ∙ sym x.1)

-- Reports of runs.
module _ (t : Query) (w : List ℕ) where
  -- the two words
  word-trimmed : (report t w).trimmed ≡ (edges t w).trimmed
  unfolding report report_of span_count
  word-trimmed = ap (λ (d : Edges). d.trimmed) (span-edges t w)

  word-edges : (report t w).edges ≡ edges_word (edges t w)
  unfolding report report_of span_count
  word-edges = ap edges_word (span-edges t w)

  -- both are 0 exactly if the run neither begins with LF nor ends in CR
  pub words-zero : (((report t w).trimmed ≡ 0) × ((report t w).edges ≡ 0)) ↔ ((begins_with_end w ≡ false) × (ends_in_return w ≡ false))
  words-zero = (λ (x, y). there (sym word-edges ∙ y), λ (b, f). (word-trimmed ∙ edges-plain t w f, word-edges ∙ back (edges-begin t w ∙ b) (edges-finish t w ∙ f)))
    where
      there : edges_word (edges t w) ≡ 0 → (begins_with_end w ≡ false) × (ends_in_return w ≡ false)
      there e = let d = unset (edges t w).leading (edges t w).trailing e in (sym (edges-begin t w) ∙ d.0, sym (edges-finish t w) ∙ d.1)
        where
          unset : (x y : Bool) → cond x 1 0 + cond y 2 0 ≡ 0 → (x ≡ false) × (y ≡ false)
          unset true y e = absurd (omega arith)
          unset false true e = absurd (omega arith)
          unset false false e = (refl, refl)

      back : (edges t w).leading ≡ false → (edges t w).trailing ≡ false → edges_word (edges t w) ≡ 0
      back b f = rw (b, f) refl

  -- they are always below 2^s and below 4
  pub words-below : ((report t w).trimmed < 2 ^ states t) × ((report t w).edges < 4)
  words-below = (rw word-trimmed (edges-below t w), rw word-edges (small (edges t w).leading (edges t w).trailing))
    where
      small : (x y : Bool) → cond x 1 0 + cond y 2 0 < 4
      small true true = omega arith
      small true false = omega arith
      small false true = omega arith
      small false false = omega arith

-- Under an accepted pattern, with case ignored or not:
module _ (c : Case) (p : List ℕ) (t : Pattern) (e : read_pattern p ≡ accepted t) where
  abbrev under : Query
  under = query c t

  few : states under ≤ 32
  few = omega (arith, accepted-few p t e)

  -- the report of a run keeps the rules of all fields but the two words
  pub run-canonical : (w : List ℕ) → Canonical (states under) (report under w)
  run-canonical w = rw (report-fields under w) (go (later_parts w))
    where
      go : (ls : List (List ℕ)) → Canonical (states under) (run_fields under w ls)
      go [] = open-canonical (states under) (omega arith) few (edges under w) (λ q p. leads under q w p)
      go (l ∷ ls) = ended-canonical (states under) (omega arith) few (edges under w)
          (λ q. accepted_from under q (trimmed (first_part w)))
          (count_in (closed_matches under) (parts_before l ls))
          (leads under 0 (last_part l ls))

  -- so it is proper exactly if these are 0, which is so exactly if the run neither begins with LF nor ends in CR
  pub run-proper : (w : List ℕ) → Proper (states under) (report under w) ↔ ((begins_with_end w ≡ false) × (ends_in_return w ≡ false))
  run-proper w = (
    λ a. (words-zero under w).0 (a.trimmed_zero, a.edges_zero),
    λ b. let z = (words-zero under w).1 b in record { canonical = run-canonical w; trimmed_zero = z.0; edges_zero = z.1 },
  )

  -- the report of the empty run
  pub empty-report : report under [] ≡ empty_report (states under)
  empty-report = sym (report-is under []) ∙ ap report_of (sym (empty-count under (accepted-few p t e))) ∙ empty-made (states under) few

  -- "With those words set, all this is said of any three reports that come from runs under one pattern."
  pub runs-joined : (u v : List ℕ) → is_run u ≡ true → is_run v ≡ true → join_result (report under u) (report under v) ≡ answered (report under (u ++ v))
  runs-joined u v g h =
      joined_by (states under) (report under u) (report under v) (omega arith) few (report-size under u) (report-size under v)
      ∙ ap answered (join-reports under (accepted-few p t e) u v g h)

  pub runs-assoc : (u v w : List ℕ) → is_run u ≡ true → is_run v ≡ true → is_run w ≡ true → join_result (join_result (report under u) (report under v)).value (report under w) ≡ join_result (report under u) (join_result (report under v) (report under w)).value
  runs-assoc u v w f g h =
      rw (runs-joined u v f g, runs-joined v w g h, runs-joined (u ++ v) w (run-append u v f g) h, runs-joined u (v ++ w) f (run-append v w g h), append_assoc u v w) refl

  pub runs-empty-left : (w : List ℕ) → is_run w ≡ true → join_result (empty_report (states under)) (report under w) ≡ answered (report under w)
  runs-empty-left w h = ap (λ (r : Report). join_result r (report under w)) (sym empty-report) ∙ runs-joined [] w refl h

  pub runs-empty-right : (w : List ℕ) → is_run w ≡ true → join_result (report under w) (empty_report (states under)) ≡ answered (report under w)
  runs-empty-right w h = ap (join_result (report under w)) (sym empty-report) ∙ runs-joined w [] h refl ∙ ap (λ (v : List ℕ). answered (report under v)) (append-nil w)
