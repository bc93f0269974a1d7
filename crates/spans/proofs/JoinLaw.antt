-- The joined spans of two runs are the span of the one after the other, and tell whether a line that matches is closed between.
use Prim.Native.Nat.{ℕ, ◌+◌, ◌<◌, ◌≤◌}
use native.Mathlib.Omega.{arith}
use mathlib.Core.Path.{◌≡◌, refl, sym, ap, ◌∙◌}
use mathlib.Core.Bool.{Bool, true, cond, ◌&&◌}
use mathlib.Core.List.{List, [], ◌∷◌, ◌++◌}
use lib.ListN.{get_or}
use Rattle.runs.specs.Keys.{is_run}
use Rattle.runs.proofs.KeyLaws.{line-append}
use Rattle.stateset.specs.Set.{bit, word, any_below, common}
use Rattle.pattern.specs.Form.{atom_count}
use Rattle.pattern.specs.Meaning.{Query}
use Rattle.pattern.specs.Moves.{states, leads, accepted_from}
use Rattle.pattern.proofs.AcceptedLines.{states-match}
use Rattle.pattern.proofs.Leading.{leads-append}
use Rattle.lines.specs.Parts.{begins_with_end, first_part, later_parts, last_part}
use Rattle.lines.specs.Lines.{trimmed, ends_in_return, closed_matches}
use Rattle.lines.proofs.Trims.{trim-line}
use Rattle.lines.proofs.PartLaws.{count_before, count_one, line_across, ends_last, first-into, later-into, first-kept, later-kept, last_then, last-open, before-open, last-closed, before-closed, first-line, later-lines, last_line_lem}
use Rattle.spans.specs.Spans.{edges, span_with, span, closed_with, closed_lines, closes_with, closes_between}
use Rattle.spans.specs.Joining.{onward, heads_across, joined_edges, joined_spans}
use Rattle.spans.proofs.RowLaws.{states-all, rows_same, onward-told}
use Rattle.spans.proofs.EdgeLaws.{run_rows, heads_of, common-start, IsSet, row-bit, kept, line-across, trimmed-is, join-edges}
use Rattle.spans.proofs.SpanLaws.{span_and, both-same, ends_same, open-same}

module _ (t : Query) (few : atom_count t.tree ≤ 29) where
  -- what the rows of a run lead to
  onward-is : (x : ℕ) (X : ℕ → Bool) → IsSet t few x X → (v : List ℕ) (p : ℕ) → p < states t → onward (states t) x (run_rows t v) p ≡ any_below (states t) (λ r. X r && leads t r v p)
  onward-is x X e v p h = onward-told (states t) x X e (λ q p. leads t q v p) p (omega arith) h

  -- no line end in either
  rows_join : (u v : List ℕ) (q p : ℕ) → q < states t → p < states t → onward (states t) (get_or (run_rows t u) q 0) (run_rows t v) p ≡ leads t q (u ++ v) p
  rows_join u v q p h l = onward-is (get_or (run_rows t u) q 0) (leads t q u) (row-bit t few u q h) v p l ∙ sym (leads-append t u v q p h)

  -- one in the second: the line across is the first
  module _ (u v : List ℕ) {m : List ℕ} {ms : List (List ℕ)} (f : later_parts v ≡ m ∷ ms) where
    -- a CR and an LF meet
    abbrev meet : Bool
    meet = (edges t u).trailing && (edges t v).leading

    heads-join : later_parts u ≡ [] → (q : ℕ) → q < states t
        → cond meet (bit (edges t u).trimmed q) (common (states t) (get_or (run_rows t u) q 0) (heads_of t (trimmed (first_part v)))) ≡ accepted_from t q (trimmed (first_part (u ++ v)))
    unfolding edges
    heads-join e q h =
        line-across t few u q (get_or (run_rows t u) q 0) h (row-bit t few u q h) (bit (edges t u).trimmed q) (trimmed-is t few u q h ∙ rw e refl) v f
        ∙ ap (λ (l : List ℕ). accepted_from t q (trimmed l)) (sym (first-into u v e))

    -- one in both: it is closed
    across : is_run u ≡ true → is_run v ≡ true → {l : List ℕ} {ls : List (List ℕ)} → later_parts u ≡ l ∷ ls
        → cond meet (common (states t) (edges t u).trimmed 1) (common (states t) (word (states t) (leads t 0 (last_part l ls))) (heads_of t (trimmed (first_part v)))) ≡ closed_matches t (line_across l ls v)
    unfolding edges
    across runs-u runs-v {l} {ls} e =
        ap (λ (b : Bool). cond (b && begins_with_end v) final (common (states t) (word (states t) (leads t 0 last)) (heads_of t (trimmed (first_part v))))) (ends_last u e)
        ∙ line-across t few last 0 (word (states t) (leads t 0 last)) (omega arith) (kept t few (leads t 0 last)) final here v f
        ∙ states-match t (trimmed (last ++ first_part v)) (trim-line (last ++ first_part v) (line-append last (first_part v) (last_line_lem l ls (rw e at (later-lines u runs-u))) (first-line v runs-v)))
      where
        last : List ℕ
        last = last_part l ls

        final : Bool
        final = common (states t) (edges t u).trimmed 1

        here : final ≡ (ends_in_return last && accepted_from t 0 (trimmed last))
        here = common-start (states t) (edges t u).trimmed (omega arith) ∙ trimmed-is t few u 0 (omega arith) ∙ rw (e, ends_last u e) refl

  module _ (u v : List ℕ) (runs-u : is_run u ≡ true) (runs-v : is_run v ≡ true) where
    edges-with : (lu lv : List (List ℕ)) → later_parts u ≡ lu → later_parts v ≡ lv → joined_edges (states t) (span_with t u lu) (span_with t v lv) ≡ edges t (u ++ v)
    unfolding span
    edges-with lu lv e f = rw (e, f) at (join-edges t few u v)

    join-with : (lu lv : List (List ℕ)) → later_parts u ≡ lu → later_parts v ≡ lv
        → joined_spans (span_with t u lu) (span_with t v lv) ≡ span_and (closes_with t lu v lv) (span_with t (u ++ v) (later_parts (u ++ v)))
    unfolding joined_spans
    join-with [] [] e f =
        rw (later-into u v e, f, states-all (states t) (omega (arith, few)))
        (both-same refl
        (open-same (states t)
        (rows_same (states t) (λ q. onward (states t) (get_or (run_rows t u) q 0) (run_rows t v)) (λ q p. leads t q (u ++ v) p) (rows_join u v))
        (edges-with [] [] e f)))
    join-with [] (m ∷ ms) e f =
        rw (later-into u v e, f, states-all (states t) (omega (arith, few)))
        (both-same refl
        (ends_same (states t)
        (heads_across (states t) (span_with t u []) (span_with t v (m ∷ ms)))
        (λ q. accepted_from t q (trimmed (first_part (u ++ v))))
        (bit (word (states t) (leads t 0 (last_part m ms))))
        (leads t 0 (last_part m ms))
        (heads-join u v f e)
        (kept t few (leads t 0 (last_part m ms)))
        (edges-with [] (m ∷ ms) e f)))
    join-with (l ∷ ls) [] e f =
        rw (later-kept u v e, states-all (states t) (omega (arith, few)))
        (both-same refl
        (ends_same (states t)
        (bit (heads_of t (trimmed (first_part u))))
        (λ q. accepted_from t q (trimmed (first_part (u ++ v))))
        (onward (states t) (word (states t) (leads t 0 (last_part l ls))) (run_rows t v))
        (leads t 0 (last_then l ls v))
        (λ q h. kept t few (λ q. accepted_from t q (trimmed (first_part u))) q h ∙ ap (λ (l : List ℕ). accepted_from t q (trimmed l)) (sym (first-kept u v e)))
        (λ p h.
        onward-is (word (states t) (leads t 0 (last_part l ls))) (leads t 0 (last_part l ls)) (kept t few (leads t 0 (last_part l ls))) v p h
        ∙ sym (leads-append t (last_part l ls) v 0 p (omega arith))
        ∙ ap (λ (w : List ℕ). leads t 0 w p) (sym (last-open l ls v f)))
        (edges-with (l ∷ ls) [] e f)))
    join-with (l ∷ ls) (m ∷ ms) e f =
        rw (later-kept u v e, states-all (states t) (omega (arith, few)))
        (both-same (across u v f runs-u runs-v e)
        (ends_same (states t)
        (bit (heads_of t (trimmed (first_part u))))
        (λ q. accepted_from t q (trimmed (first_part (u ++ v))))
        (bit (word (states t) (leads t 0 (last_part m ms))))
        (leads t 0 (last_then l ls v))
        (λ q h. kept t few (λ q. accepted_from t q (trimmed (first_part u))) q h ∙ ap (λ (l : List ℕ). accepted_from t q (trimmed l)) (sym (first-kept u v e)))
        (λ p h. kept t few (leads t 0 (last_part m ms)) p h ∙ ap (λ (w : List ℕ). leads t 0 w p) (sym (last-closed l ls v f)))
        (edges-with (l ∷ ls) (m ∷ ms) e f)))

    -- The spans of u and of v, joined, are the span of u followed by v.
    pub join-spans : joined_spans (span t u) (span t v) ≡ record { span = span t (u ++ v); closes = closes_between t u v }
    unfolding span closes_between
    join-spans = join-with (later_parts u) (later_parts v) refl refl

-- The closed lines of u followed by v are those of both, and the line between.
pub closed-append : (t : Query) (u v : List ℕ) → closed_lines t (u ++ v) ≡ closed_lines t u + closed_lines t v + cond (closes_between t u v) 1 0
unfolding closed_lines closes_between
closed-append t u v = go (later_parts u) (later_parts v) refl refl
  where
    go : (lu lv : List (List ℕ)) → later_parts u ≡ lu → later_parts v ≡ lv → closed_with t (later_parts (u ++ v)) ≡ closed_with t lu + closed_with t lv + cond (closes_with t lu v lv) 1 0
    go [] [] e f = rw (later-into u v e, f) refl
    go [] (m ∷ ms) e f = rw (later-into u v e, f) (omega arith)
    go (l ∷ ls) [] e f = rw (later-kept u v e, before-open l ls v (closed_matches t) f) (omega arith)
    go (l ∷ ls) (m ∷ ms) e f =
        let n = count_before (closed_matches t) l ls in
        let k = count_before (closed_matches t) m ms in
        let x = count_one (closed_matches t) (line_across l ls v) in
        rw (later-kept u v e, before-closed l ls v (closed_matches t) f) (sum n k x)
      where
        sum : (n k x : ℕ) → n + (x + k) ≡ n + k + x
        sum n k x = omega arith
