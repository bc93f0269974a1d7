-- What a proper report says, by its sets and its number of closed lines; and joining by these: it may be grouped at will.
use Prim.Native.Nat.{ℕ, zero, suc, ◌+◌, ◌^◌, ◌<◌, ◌≤◌}
use native.Mathlib.Omega.{arith}
use mathlib.Core.Path.{◌≡◌, refl, sym, ap, ◌∙◌}
use mathlib.Core.Bool.{Bool, true, false, cond}
use mathlib.Core.List.{List}
use lib.Dec.{leb, eqb}
use lib.ListN.{get_or}
use borrow.Author.Tests.{le-leb}
use Rattle.runs.proofs.Tests.{torn}
use Rattle.stateset.specs.Set.{bit, word}
use Rattle.stateset.proofs.Sets.{word-ext, word-unique}
use Rattle.stateset.proofs.Some.{any-through, any_at, any-to}
use Rattle.spans.specs.declared.span.Span.{Span}
use Rattle.spans.specs.declared.span.JoinedSpan.{JoinedSpan}
use Rattle.spans.specs.Joining.{no_edges, joined_spans}
use Rattle.spans.proofs.RowLaws.{rows_same, rows_told}
use Rattle.spans.proofs.PlainLaws.{meeting, onwards, plain_open, plain_ended, join-open, join-opening, join-ending, join-ended}
use Rattle.reports.specs.declared.report.Report.{Report}
use Rattle.reports.specs.declared.span_count.SpanCount.{SpanCount}
use Rattle.reports.specs.Totals.{most, total_of}
use Rattle.reports.specs.Reports.{report_of, joined_counts, in_report, joined_reports}
use Rattle.reports.specs.Proper.{Canonical, Proper}
use Rattle.reports.proofs.TotalLaws.{total-sum}
use Rattle.reports.proofs.ReportLaws.{with-line, in-flat}
use Rattle.reports.proofs.FlatLaws.{open-flat, ended_flat}

-- without a line end, the states that each state leads to; with one, the heads, the number of closed lines, the tail
pub data Effect : Type 0 where
  within : (ℕ → ℕ → Bool) → Effect
  across : (ℕ → Bool) → ℕ → (ℕ → Bool) → Effect

module _ (s : ℕ) where
  -- the span of s states with that effect and no edges, and its number of closed lines
  abbrev pub counted : Effect → SpanCount
  counted (within X) = record { span = plain_open s X; closed = total_of 0 }
  counted (across H n T) = record { span = plain_ended s H T; closed = total_of n }

  -- the report that says so
  abbrev pub shown : Effect → Report
  shown x = report_of (counted x)

  -- one effect, and then another: the line across is closed where both have a line end
  abbrev pub and_then : Effect → Effect → Effect
  and_then (within X) (within Y) = within (λ q. onwards s (X q) Y)
  and_then (within X) (across H n T) = across (λ q. meeting s (X q) H) n T
  and_then (across H n T) (within X) = across H n (onwards s T X)
  and_then (across H n T) (across G m S) = across H (n + m + cond (meeting s T G) 1 0) S

  -- Reports with the same sets and number are the same.
  within_same : (X Y : ℕ → ℕ → Bool) → ((q p : ℕ) → q < s → p < s → X q p ≡ Y q p) → shown (within X) ≡ shown (within Y)
  within_same X Y e = ap (λ (rows : List ℕ). report_of (record { span = record { s = s; rows = rows; ended = false; heads = 0; tail = 0; edges = (plain_open s X).edges }; closed = total_of 0 })) (rows_same s X Y e)

  across-same : (H G : ℕ → Bool) (n m : ℕ) (T S : ℕ → Bool) → ((q : ℕ) → q < s → H q ≡ G q) → n ≡ m → ((p : ℕ) → p < s → T p ≡ S p) → shown (across H n T) ≡ shown (across G m S)
  across-same H G n m T S e f g = rw (word-ext s H G e, f, word-ext s T S g) refl

  -- Effects may be grouped at will.
  pub then-assoc : (x y z : Effect) → shown (and_then (and_then x y) z) ≡ shown (and_then x (and_then y z))
  then-assoc (within X) (within Y) (within Z) =
      within_same (λ q. onwards s (onwards s (X q) Y) Z) (λ q. onwards s (X q) (λ r. onwards s (Y r) Z)) (λ q p h l. sym (any-through s (X q) Y (λ r. Z r p)))
  then-assoc (within X) (within Y) (across H n T) =
      across-same (λ q. meeting s (onwards s (X q) Y) H) (λ q. meeting s (X q) (λ r. meeting s (Y r) H)) n n T T (λ q h. sym (any-through s (X q) Y H)) refl (λ p h. refl)
  then-assoc (within X) (across H n T) (within Z) = refl
  then-assoc (within X) (across H n T) (across G m S) = refl
  then-assoc (across H n T) (within Y) (within Z) =
      across-same H H n n (onwards s (onwards s T Y) Z) (onwards s T (λ r. onwards s (Y r) Z)) (λ q h. refl) refl (λ p h. sym (any-through s T Y (λ r. Z r p)))
  then-assoc (across H n T) (within Y) (across G m S) =
      across-same H H _ _ S S (λ q h. refl) (ap (λ (b : Bool). n + m + cond b 1 0) (sym (any-through s T Y G))) (λ p h. refl)
  then-assoc (across H n T) (across G m S) (within Z) = refl
  then-assoc (across H n T) (across G m S) (across F k R) = across-same H H _ _ R R (λ q h. refl) (sums n m k (cond (meeting s T G) 1 0) (cond (meeting s S F) 1 0)) (λ p h. refl)
    where
      sums : (n m k x y : ℕ) → n + m + x + k + y ≡ n + (m + k + y) + x
      sums n m k x y = omega arith

  -- Each state reaching itself changes nothing.
  pub then-left : (x : Effect) → shown (and_then (within (λ q p. eqb q p)) x) ≡ shown x
  then-left (within X) = within_same (λ q. onwards s (λ p. eqb q p) X) X (λ q p h l. any_at s q (λ r. X r p) h)
  then-left (across H n T) = across-same (λ q. meeting s (λ p. eqb q p) H) H n n T T (λ q h. any_at s q H h) refl (λ p h. refl)

  pub then-right : (x : Effect) → shown (and_then x (within (λ q p. eqb q p))) ≡ shown x
  then-right (within X) = within_same (λ q. onwards s (X q) (λ r p. eqb r p)) X (λ q p h l. any-to s p (X q) l)
  then-right (across H n T) = across-same H H n n (onwards s T (λ r p. eqb r p)) T (λ q h. refl) refl (λ p h. any-to s p T h)

  module _ (few : s ≤ 32) where
    -- what is kept is joined so
    joins-with : (a b : Span) (j : JoinedSpan) (n m : ℕ) → joined_spans a b ≡ j
        → joined_counts (record { span = a; closed = total_of n }) (record { span = b; closed = total_of m }) ≡ record { span = j.span; closed = total_of (n + m + cond j.closes 1 0) }
    unfolding joined_counts
    joins-with a b j n m e = rw (e, total-sum n m) (with-line j.span j.closes (n + m) (n + m + cond j.closes 1 0) refl)

    pub counts-join : (x y : Effect) → joined_counts (counted x) (counted y) ≡ counted (and_then x y)
    counts-join (within X) (within Y) = joins-with (plain_open s X) (plain_open s Y) _ 0 0 (join-open s few X Y)
    counts-join (within X) (across H n T) = let e : 0 + n + 0 ≡ n = omega arith in joins-with (plain_open s X) (plain_ended s H T) _ 0 n (join-opening s few X H T) ∙ rw e refl
    counts-join (across H n T) (within X) = let e : n + 0 + 0 ≡ n = omega arith in joins-with (plain_ended s H T) (plain_open s X) _ n 0 (join-ending s few X H T) ∙ rw e refl
    counts-join (across H n T) (across G m S) = joins-with (plain_ended s H T) (plain_ended s G S) _ n m (join-ended s few H T G S)

    -- and so are reports
    counted_back : (x : Effect) → in_report (shown x) ≡ counted x
    counted_back (within X) = in-flat (counted (within X)) (λ e. refl)
    counted_back (across H n T) = in-flat (counted (across H n T)) (λ e. torn true refl e)

    pub shown-join : (x y : Effect) → joined_reports (shown x) (shown y) ≡ shown (and_then x y)
    unfolding joined_reports
    shown-join x y = rw (counted_back x, counted_back y, counts-join x y) refl

-- Proper reports are those that effects show.

-- a report by its fields
abbrev fields : ℕ → List ℕ → ℕ → ℕ → ℕ → ℕ → ℕ → ℕ → Report
fields s rows flag heads closed tail trimmed edges =
    record { s = s; rows = rows; flag = flag; heads = heads; closed = closed; tail = tail; trimmed = trimmed; edges = edges }

fields-same : {s t : ℕ} {x y : List ℕ} {f g h i c d k l m n o p : ℕ} → s ≡ t → x ≡ y → f ≡ g → h ≡ i → c ≡ d → k ≡ l → m ≡ n → o ≡ p → fields s x f h c k m o ≡ fields t y g i d l n p
fields-same a b c d e f g h = rw (a, b, c, d, e, f, g, h) refl

pub proper-shown : (s : ℕ) (r : Report) → Proper s r → (x : Effect) × (r ≡ shown s x)
proper-shown s r p = go r.flag refl
  where
    all : Canonical s r
    all = p.canonical

    -- a set of states below s
    told : (x : ℕ) → x < 2 ^ s → x ≡ word s (bit x)
    told x h = word-unique s x (bit x) h (λ p l. refl)

    X : ℕ → ℕ → Bool
    X q = bit (get_or r.rows q 0)

    H : ℕ → Bool
    H = bit r.heads

    T : ℕ → Bool
    T = bit r.tail

    few : leb r.closed most ≡ true
    few = le-leb r.closed most all.closed_fits

    go : (f : ℕ) → r.flag ≡ f → (x : Effect) × (r ≡ shown s x)
    go zero e = (
      within X,
      fields-same all.size (rows_told s r.rows all.largest all.rows_long all.rows_below all.rows_above) e (all.no_heads e) (all.no_closed e) (all.no_tail e) p.trimmed_zero p.edges_zero
          ∙ sym (open-flat s X no_edges (total_of 0)),
    )
    go (suc zero) e = (
      across H r.closed T,
      fields-same all.size (all.rows_emptied (omega arith)) (rw few e) (told r.heads all.heads_below) (rw few refl) (told r.tail all.tail_below) p.trimmed_zero p.edges_zero
          ∙ sym (ended_flat s H T no_edges r.closed),
    )
    go (suc (suc zero)) e = (
      across H (suc most) T,
      fields-same all.size (all.rows_emptied (omega arith)) e (told r.heads all.heads_below) (all.closed_emptied e) (told r.tail all.tail_below) p.trimmed_zero p.edges_zero
          ∙ sym (ended_flat s H T no_edges (suc most)),
    )
    go (suc (suc (suc f))) e = absurd (omega (arith, all.flag_up_to))
