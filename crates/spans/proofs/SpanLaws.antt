-- Laws of the span of a run: its size, of the empty run, its rows, the closed lines of a run without a line end; and of what the operations make.
use Prim.Native.Nat.{ℕ, zero, suc, ◌-◌, ◌<◌, ◌≤◌}
use native.Mathlib.Omega.{arith}
use mathlib.Core.Path.{◌≡◌, refl, sym, ap}
use mathlib.Core.Bool.{Bool, true, false, cond}
use mathlib.Core.List.{List, [], ◌∷◌, ◌++◌}
use lib.Dec.{eqb}
use lib.ListN.{length, get_or, take, replicate}
use Rattle.runs.specs.Keys.{line_end}
use Rattle.runs.proofs.KeptLaws.{zeros-at}
use Rattle.runs.proofs.Tests.{torn}
use Rattle.stateset.proofs.Sets.{word-ext}
use Rattle.pattern.specs.Meaning.{Query}
use Rattle.pattern.specs.Form.{atom_count}
use Rattle.pattern.specs.Moves.{states, leads}
use Rattle.pattern.specs.declared.automaton.Accepting.{Accepting}
use Rattle.pattern.proofs.Leading.{leads-none}
use Rattle.lines.specs.Parts.{later_parts}
use Rattle.lines.proofs.PartLaws.{later-none}
use Rattle.spans.specs.declared.span.Span.{Span}
use Rattle.spans.specs.declared.span.Edges.{Edges}
use Rattle.spans.specs.declared.span.JoinedSpan.{JoinedSpan}
use Rattle.spans.specs.Spans.{rows_of, no_rows, ended_span, span_with, span, closed_with, closed_lines}
use Rattle.spans.specs.Joining.{state_count, empty_span, joined_with, joined_spans, keyed, moved_with, moved_span, end_span, extended_span}
use Rattle.spans.proofs.RowLaws.{states-all, states-few, rows_long_lem, row-above, rows_same}
use Rattle.spans.proofs.EdgeLaws.{edges_none}

-- the span of a run has the pattern's states
pub span-size : (t : Query) (w : List ℕ) → (span t w).s ≡ states t
unfolding span
span-size t w = go (later_parts w)
  where
    go : (ls : List (List ℕ)) → (span_with t w ls).s ≡ states t
    go [] = refl
    go (l ∷ ls) = refl

-- a span, and whether a line is closed
abbrev pub span_and : Bool → Span → JoinedSpan
span_and b x = record { span = x; closes = b }

pub both-same : {b c : Bool} {x y : Span} → b ≡ c → x ≡ y → span_and b x ≡ span_and c y
both-same e f = rw (e, f) refl

-- a span with the same fields is the same
pub ends_same : (s : ℕ) (H I T U : ℕ → Bool) {d e : Edges} → ((q : ℕ) → q < s → H q ≡ I q) → ((p : ℕ) → p < s → T p ≡ U p) → d ≡ e → ended_span s H T d ≡ ended_span s I U e
ends_same s H I T U f g i = rw (word-ext s H I f, word-ext s T U g, i) refl

pub open-same : (s : ℕ) {x y : List ℕ} {d e : Edges} → x ≡ y → d ≡ e → ◌≡◌ {A = Span} (record { s = s; rows = x; ended = false; heads = 0; tail = 0; edges = d }) (record { s = s; rows = y; ended = false; heads = 0; tail = 0; edges = e })
open-same s f g = rw (f, g) refl

-- the empty run
pub empty-span : (t : Query) → atom_count t.tree ≤ 29 → empty_span (states t) ≡ span t []
unfolding span
empty-span t few =
    rw (later-none, states-all (states t) (omega arith))
    (open-same (states t) (rows_same (states t) (λ q p. eqb q p) (λ q p. leads t q [] p) (λ q p h l. sym (leads-none t q p))) (edges_none t))

pub closed-empty : (t : Query) → closed_lines t [] ≡ 0
unfolding closed_lines
closed-empty t = rw later-none refl

-- a run without a line end has no closed line
pub closed_none : (t : Query) (w : List ℕ) → (span t w).ended ≡ false → closed_lines t w ≡ 0
unfolding span closed_lines
closed_none t w = go (later_parts w)
  where
    go : (ls : List (List ℕ)) → (span_with t w ls).ended ≡ false → closed_with t ls ≡ 0
    go [] e = refl
    go (l ∷ ls) e = torn false (sym e) refl

-- a list that ends in zeros
padded-list : (l : List ℕ) (s : ℕ) → s ≤ length l → ((i : ℕ) → s ≤ i → i < length l → get_or l i 0 ≡ 0) → take s l ++ replicate (length l - s) 0 ≡ l
padded-list [] zero h e = refl
padded-list [] (suc s) h e = absurd (omega arith)
padded-list (x ∷ l) zero h e =
    let more : length (x ∷ l) - 0 ≡ suc (length l) = omega arith in
    let less : length l - 0 ≡ length l = omega arith in
    rw (more, e 0 (omega arith) (omega arith)) (ap (λ (k : List ℕ). 0 ∷ k) (rw less at (padded-list l zero (omega arith) (λ i g k. e (suc i) (omega arith) (omega arith)))))
padded-list (x ∷ l) (suc s) h e =
    let same : length (x ∷ l) - suc s ≡ length l - s = omega arith in
    rw same (ap (λ (k : List ℕ). x ∷ k) (padded-list l s (omega arith) (λ i g k. e (suc i) (omega arith) (omega arith))))

-- rows of s states end in zeros
rows-padded : (s : ℕ) (X : ℕ → ℕ → Bool) → s ≤ 32 → take s (rows_of s X) ++ replicate (32 - s) 0 ≡ rows_of s X
rows-padded s X h =
    rw (rows_long_lem s X) at
    (padded-list (rows_of s X) s (rw (rows_long_lem s X) h)
    (λ i g k. row-above s X i g))

zeros-padded : (s : ℕ) → s ≤ 32 → take s no_rows ++ replicate (32 - s) 0 ≡ no_rows
zeros-padded s h = padded-list no_rows s h (λ i g k. zeros-at 32 i)

-- the rows of a run's span: 32, and zeros from the number of states on
pub span-rows : (t : Query) (w : List ℕ) → length (span t w).rows ≡ 32
unfolding span
span-rows t w = go (later_parts w)
  where
    go : (ls : List (List ℕ)) → length (span_with t w ls).rows ≡ 32
    go [] = rows_long_lem (states t) (λ q p. leads t q w p)
    go (l ∷ ls) = refl

pub span-padded : (t : Query) → atom_count t.tree ≤ 29 → (w : List ℕ) → take (states t) (span t w).rows ++ replicate (32 - states t) 0 ≡ (span t w).rows
unfolding span
span-padded t few w = go (later_parts w)
  where
    go : (ls : List (List ℕ)) → take (states t) (span_with t w ls).rows ++ replicate (32 - states t) 0 ≡ (span_with t w ls).rows
    go [] = rows-padded (states t) (λ q p. leads t q w p) (omega arith)
    go (l ∷ ls) = zeros-padded (states t) (omega arith)

-- A run's span and closed lines, by the parts behind its line ends.
module _ (t : Query) (w : List ℕ) where
  pub span-by : span t w ≡ span_with t w (later_parts w)
  unfolding span
  span-by = refl

  pub closed-by : closed_lines t w ≡ closed_with t (later_parts w)
  unfolding closed_lines
  closed-by = refl

-- The joining of two spans, by whether they have a line end.
pub joined_by : (a b : Span) → joined_spans a b ≡ joined_with (state_count a.s) a.ended b.ended a b
unfolding joined_spans
joined_by a b = refl

-- What the operations make has at most 32 states.
pub joined-few : (a b : Span) → (joined_spans a b).span.s ≤ 32
unfolding joined_spans
joined-few a b = go a.ended b.ended
  where
    go : (x y : Bool) → (joined_with (state_count a.s) x y a b).span.s ≤ 32
    go true true = states-few a.s
    go true false = states-few a.s
    go false true = states-few a.s
    go false false = states-few a.s

pub extended-few : (keys enter : List ℕ) (p : Accepting) (a : Span) (k : ℕ) → (extended_span keys enter p a k).span.s ≤ 32
unfolding extended_span moved_span
extended-few keys enter p a k = go (eqb k line_end)
  where
    key : (x : Bool) → (moved_with (state_count a.s) (keyed keys enter p k (state_count a.s)) x a).s ≤ 32
    key true = states-few a.s
    key false = states-few a.s

    go : (x : Bool) → (cond x (joined_spans a (end_span a.s p)) (record { span = moved_span keys enter p a k; closes = false })).span.s ≤ 32
    go true = joined-few a (end_span a.s p)
    go false = key a.ended
