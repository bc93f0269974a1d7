-- A span shows the pairs of states of its run.
use Prim.Native.Nat.{ℕ, zero, suc, ◌*◌, ◌≤◌}
use native.Mathlib.Omega.{arith}
use native.Mathlib.Nat.{mul-le-mul, mul-le-mul_left}
use mathlib.Core.Path.{◌≡◌, ap, ◌∙◌}
use mathlib.Core.Bool.{Bool, true, false}
use mathlib.Core.List.{List, [], ◌∷◌}
use lib.ListN.{get_or}
use Rattle.runs.specs.Counts.{count_below}
use Rattle.runs.proofs.CountLaws.{count-ext, count-le, sum-ext, sum-le}
use Rattle.stateset.specs.Set.{bit, word}
use Rattle.stateset.proofs.Sets.{bit_word}
use Rattle.pattern.specs.Meaning.{Query}
use Rattle.pattern.specs.Form.{atom_count}
use Rattle.pattern.specs.Moves.{states, leads}
use Rattle.lines.specs.Parts.{later_parts, last_part}
use Rattle.spans.specs.declared.span.Span.{Span}
use Rattle.spans.specs.Spans.{rows_of, span_with, span}
use Rattle.spans.specs.Joining.{state_count}
use Rattle.spans.specs.Pairs.{pairs_with, pairs, pairs_in_with, pairs_in}
use Rattle.spans.proofs.RowLaws.{states-all, states-few, row_of}

-- a word of s states has as many members below s
members : (s : ℕ) (X : ℕ → Bool) → count_below s (bit (word s X)) ≡ count_below s X
members s X = count-ext s (bit (word s X)) X (bit_word s X)

-- of a run under a pattern
pub pairs_of : (t : Query) → atom_count t.tree ≤ 29 → (w : List ℕ) → pairs_in (span t w) ≡ pairs t w
unfolding span pairs pairs_in
pairs_of t few w = go (later_parts w)
  where
    all : state_count (states t) ≡ states t
    all = states-all (states t) (omega arith)

    go : (ls : List (List ℕ)) → pairs_in_with (state_count (span_with t w ls).s) (span_with t w ls).ended (span_with t w ls) ≡ pairs_with t w ls
    go [] =
        rw all
        (sum-ext (states t) (λ q. count_below (states t) (bit (get_or (rows_of (states t) (λ q p. leads t q w p)) q 0))) (λ q. count_below (states t) (leads t q w))
        (λ q h. ap (λ (x : ℕ). count_below (states t) (bit x)) (row_of (states t) (λ q p. leads t q w p) q h (omega arith)) ∙ members (states t) (leads t q w)))
    go (l ∷ ls) = rw all (members (states t) (leads t 0 (last_part l ls)))

-- no more than the square of the number of states
square : (s : ℕ) (b : Bool) (a : Span) → pairs_in_with s b a ≤ s * s
square s false a = sum-le s s (λ q. count_below s (bit (get_or a.rows q 0))) (λ q l. count-le s (bit (get_or a.rows q 0)))
square s true a = one s (count-le s (bit a.tail))
  where
    one : (s : ℕ) {n : ℕ} → n ≤ s → n ≤ s * s
    one zero h = h
    one (suc k) h = let some : 1 ≤ suc k = omega arith in omega (arith, h, mul-le-mul_left (suc k) some)

-- so 1,024 at most
pub pairs-le : (a : Span) → pairs_in a ≤ 1024
unfolding pairs_in
pairs-le a =
    let few = states-few a.s in
    omega (arith, square (state_count a.s) a.ended a, mul-le-mul few few)

-- a run has no more pairs than the square of the number of states
pub pairs-square : (t : Query) (w : List ℕ) → pairs t w ≤ states t * states t
unfolding pairs
pairs-square t w = go (later_parts w)
  where
    go : (ls : List (List ℕ)) → pairs_with t w ls ≤ states t * states t
    go [] = sum-le (states t) (states t) (λ q. count_below (states t) (leads t q w)) (λ q l. count-le (states t) (leads t q w))
    go (l ∷ ls) = let one : 1 ≤ states t = omega arith in omega (arith, count-le (states t) (leads t 0 (last_part l ls)), mul-le-mul_left (states t) one)
