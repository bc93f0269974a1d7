-- The span of a run with one key more.
use Prim.Native.Nat.{ℕ, ◌+◌, ◌<◌, ◌≤◌}
use native.Mathlib.Omega.{arith}
use native.Mathlib.Nat.{add-zero}
use mathlib.Core.Path.{◌≡◌, refl, sym, ap, ◌∙◌}
use mathlib.Core.Bool.{Bool, true, false, cond, ◌&&◌}
use mathlib.Core.List.{List, [], ◌∷◌, ◌++◌}
use lib.Dec.{ltb, eqb}
use lib.ListN.{get_or}
use borrow.Author.Tests.{ltb-true, ltb-false, eqb-true, eqb-false, ne_eqb}
use Rattle.runs.specs.Keys.{is_key, line_end, is_run, line_key}
use Rattle.runs.proofs.KeyLaws.{key-of-line}
use Rattle.stateset.specs.Set.{bit, word, common}
use Rattle.stateset.proofs.Sets.{bit_word, bits-ext, word-ext, word-high, word-one}
use Rattle.stateset.proofs.Some.{any-ext, any_at}
use Rattle.pattern.specs.Form.{atom_count}
use Rattle.pattern.specs.Meaning.{Query}
use Rattle.pattern.specs.Moves.{states, accepting, leads, accepted_from}
use Rattle.pattern.specs.Automata.{Automaton}
use Rattle.pattern.specs.declared.automaton.Accepting.{Accepting}
use Rattle.pattern.proofs.Readings.{accepting-of}
use Rattle.pattern.proofs.Leading.{leads-none, accepted-is}
use Rattle.lines.specs.Moving.{moved}
use Rattle.lines.specs.Parts.{first_part, later_parts, last_part}
use Rattle.lines.specs.Lines.{trimmed, closed_matches}
use Rattle.lines.proofs.Trims.{trim-none}
use Rattle.lines.proofs.Reaching.{looked-up, leads-high, leads-more}
use Rattle.lines.proofs.PartLaws.{last_then, first-kept, later-into, later-kept, last-open, end-part, end-first, key-part, last_one, before-none}
use Rattle.spans.specs.declared.span.Span.{Span}
use Rattle.spans.specs.declared.span.Edges.{Edges}
use Rattle.spans.specs.Spans.{edges, span_with, span, closed_with, closed_lines, closes_with, closes_between}
use Rattle.spans.specs.Joining.{state_count, joined_edges, heads_across, end_edges, end_span, joined_with, joined_spans, keyed, moved_with, with_edges, moved_span, extended_span}
use Rattle.spans.proofs.RowLaws.{states-all, row_of, rows_same}
use Rattle.spans.proofs.SpanLaws.{span-size, span_and, ends_same, open-same}
use Rattle.spans.proofs.Made.{of_ends}
use Rattle.spans.proofs.EdgeLaws.{run_rows, heads_of, edges-end, moved-edges}
use Rattle.spans.proofs.JoinLaw.{join-spans, closed-append}

-- Words of a run.
module _ (t : Query) (few : atom_count t.tree ≤ 29) (q : ℕ) (inside : q < states t) where
  -- a word has no more states than the pattern
  row-wide : (w : List ℕ) → word (states t) (leads t q w) ≡ word 32 (leads t q w)
  row-wide w = bits-ext (word (states t) (leads t q w)) (word 32 (leads t q w)) (λ p. go p (ltb p (states t)) refl)
    where
      high : (p : ℕ) → states t ≤ p → (b : Bool) → ltb p 32 ≡ b → bit (word 32 (leads t q w)) p ≡ false
      high p h true e = bit_word 32 (leads t q w) p (ltb-true p 32 e) ∙ leads-high t few q inside w p h
      high p h false e = word-high 32 (leads t q w) p (ltb-false p 32 e)

      go : (p : ℕ) (b : Bool) → ltb p (states t) ≡ b → bit (word (states t) (leads t q w)) p ≡ bit (word 32 (leads t q w)) p
      go p true e =
          let h : p < states t = ltb-true p (states t) e in
          bit_word (states t) (leads t q w) p h ∙ sym (bit_word 32 (leads t q w) p (omega arith))
      go p false e =
          let h : states t ≤ p = ltb-false p (states t) e in
          word-high (states t) (leads t q w) p h ∙ sym (high p h (ltb p 32) refl)

  -- a row moves on one key more
  row-moves : (w : List ℕ) (k : ℕ) → moved t (word (states t) (leads t q w)) k ≡ word (states t) (leads t q (w ++ (k ∷ [])))
  row-moves w k = rw (row-wide w, row-wide (w ++ (k ∷ []))) (leads-more t few q inside w k)

  -- the same by look-up
  row-keyed : {keys enter : List ℕ} {p : Accepting} → Automaton t keys enter p → (k : ℕ) → line_key k ≡ true → (w : List ℕ) {x : ℕ} → x ≡ word (states t) (leads t q w)
      → (r : ℕ) → r < states t → keyed keys enter p k (states t) x r ≡ leads t q (w ++ (k ∷ [])) r
  row-keyed {keys} {enter} {p} d k l w {x} e r h =
      rw (e, word-ext (states t) (bit (word (states t) (leads t q w))) (leads t q w) (bit_word (states t) (leads t q w)), looked-up d (word (states t) (leads t q w)) k l, row-moves w k)
      (bit_word (states t) (leads t q (w ++ (k ∷ []))) r h)

-- line-start alone
start_word : (t : Query) → 1 ≡ word (states t) (leads t 0 [])
start_word t = word-one (states t) 0 (omega arith) ∙ word-ext (states t) (λ p. eqb 0 p) (leads t 0 []) (λ p h. sym (leads-none t 0 p))

-- the accepting states accept the empty line
accepted-none : (t : Query) (q : ℕ) → q < states t → accepted_from t q [] ≡ accepting t.tree q
accepted-none t q h =
    accepted-is t q []
    ∙ any-ext (states t) (λ p. leads t q [] p && accepting t.tree p) (λ p. eqb q p && accepting t.tree p) (λ p l. rw (leads-none t q p))
    ∙ any_at (states t) q (accepting t.tree) h

-- joining goes by the states below s of the right span's heads
heads-same : (a : Span) (s h i z : ℕ) (d : Edges) → ((x : ℕ) → common (state_count a.s) x h ≡ common (state_count a.s) x i)
    → joined_spans a (of_ends s h z d) ≡ joined_spans a (of_ends s i z d)
unfolding joined_spans joined_edges
heads-same a s h i z d e = go a.ended
  where
    n : ℕ
    n = state_count a.s

    go : (b : Bool) → joined_with n b true a (of_ends s h z d) ≡ joined_with n b true a (of_ends s i z d)
    go true = rw (e a.tail) refl
    go false =
        rw (word-ext n (heads_across n a (of_ends s h z d)) (heads_across n a (of_ends s i z d)) (λ q l. ap (cond (a.edges.trailing && d.leading) (bit a.edges.trimmed q)) (e (get_or a.rows q 0)))) refl

-- a key that is no line end closes none
none-closed : (t : Query) (w : List ℕ) (k : ℕ) → eqb line_end k ≡ false → closes_between t w (k ∷ []) ≡ false
unfolding closes_between
none-closed t w k e = rw (key-part k e) (go (later_parts w))
  where
    go : (ls : List (List ℕ)) → closes_with t ls (k ∷ []) [] ≡ false
    go [] = refl
    go (l ∷ ls) = refl

-- one key has no line between line ends
closed-one : (t : Query) (k : ℕ) → closed_lines t (k ∷ []) ≡ 0
unfolding closed_lines
closed-one t k = go (eqb line_end k) refl
  where
    go : (b : Bool) → eqb line_end k ≡ b → closed_with t (later_parts (k ∷ [])) ≡ 0
    go true e = let same : line_end ≡ k = eqb-true line_end k e in rw (← same, end-part) (before-none (closed_matches t) [])
    go false e = rw (key-part k e) refl

-- the span of a line end alone
end-span : (t : Query) → span t (line_end ∷ []) ≡ of_ends (states t) (heads_of t []) 1 end_edges
unfolding span
end-span t = rw (end-part, end-first, trim-none, last_one [], ← start_word t, ← edges-end t) refl

module _ {t : Query} {keys enter : List ℕ} {p : Accepting} (d : Automaton t keys enter p) where
  span-count : (w : List ℕ) → state_count (span t w).s ≡ states t
  span-count w = ap state_count (span-size t w) ∙ states-all (states t) (omega (arith, d.few))

  -- the accepting states
  accepts : (x : ℕ) → common (states t) x p.accepting ≡ common (states t) x (heads_of t [])
  accepts x =
      any-ext (states t) (λ r. bit x r && bit p.accepting r) (λ r. bit x r && bit (heads_of t []) r)
      (λ r l.
      let low : r < 32 = omega (arith, d.few) in
      rw (accepting-of d, bit_word 32 (accepting t.tree) r low, bit_word (states t) (λ q. accepted_from t q []) r l, accepted-none t r l) refl)

  -- a line end
  end-joined : (w : List ℕ) → joined_spans (span t w) (end_span (span t w).s p) ≡ joined_spans (span t w) (span t (line_end ∷ []))
  end-joined w =
      ap (λ (n : ℕ). joined_spans (span t w) (end_span n p)) (span-size t w)
      ∙ heads-same (span t w) (states t) p.accepting (heads_of t []) 1 end_edges (λ x. rw (span-count w) (accepts x))
      ∙ ap (joined_spans (span t w)) (sym (end-span t))

  -- another key
  module _ (k : ℕ) (key : line_key k ≡ true) (other : eqb line_end k ≡ false) (w : List ℕ) where
    moved-with : (ls : List (List ℕ)) → later_parts w ≡ ls
        → with_edges (edges t (w ++ (k ∷ []))) (moved_with (states t) (keyed keys enter p k (states t)) (span_with t w ls).ended (span_with t w ls)) ≡ span_with t (w ++ (k ∷ [])) (later_parts (w ++ (k ∷ [])))
    moved-with [] e =
        rw (later-into w (k ∷ []) e, key-part k other)
        (open-same (states t)
        (rows_same (states t) (λ q. keyed keys enter p k (states t) (get_or (run_rows t w) q 0)) (λ q r. leads t q (w ++ (k ∷ [])) r)
        (λ q r h l. row-keyed t d.few q h d k key w (row_of (states t) (λ q r. leads t q w r) q h (omega (arith, d.few))) r l))
        refl)
    moved-with (l ∷ ls) e =
        rw (later-kept w (k ∷ []) e)
        (ends_same (states t)
        (bit (heads_of t (trimmed (first_part w))))
        (λ q. accepted_from t q (trimmed (first_part (w ++ (k ∷ [])))))
        (keyed keys enter p k (states t) (word (states t) (leads t 0 (last_part l ls))))
        (leads t 0 (last_then l ls (k ∷ [])))
        (λ q h. bit_word (states t) (λ q. accepted_from t q (trimmed (first_part w))) q h ∙ ap (λ (l : List ℕ). accepted_from t q (trimmed l)) (sym (first-kept w (k ∷ []) e)))
        (λ r h. row-keyed t d.few 0 (omega arith) d k key (last_part l ls) refl r h ∙ ap (λ (v : List ℕ). leads t 0 v r) (sym (last-open l ls (k ∷ []) (key-part k other))))
        refl)

    moved-span : moved_span keys enter p (span t w) k ≡ span t (w ++ (k ∷ []))
    unfolding moved_span span
    moved-span = rw (span-count w, moved-edges t d.few p accepts w k other) (moved-with (later_parts w) refl)

  -- The span of w, with key k more, is the span of w followed by k.
  pub extend-span : (w : List ℕ) (k : ℕ) → is_run w ≡ true → is_key k ≡ true
      → extended_span keys enter p (span t w) k ≡ record { span = span t (w ++ (k ∷ [])); closes = closes_between t w (k ∷ []) }
  unfolding extended_span
  extend-span w k run key = go (eqb k line_end) refl
    where
      go : (b : Bool) → eqb k line_end ≡ b
          → cond b (joined_spans (span t w) (end_span (span t w).s p)) (span_and false (moved_span keys enter p (span t w) k)) ≡ span_and (closes_between t w (k ∷ [])) (span t (w ++ (k ∷ [])))
      go true e =
          let same : k ≡ line_end = eqb-true k line_end e in
          rw same (end-joined w ∙ join-spans t d.few w (line_end ∷ []) run refl)
      go false e =
          let other : eqb line_end k ≡ false = ne_eqb line_end k (λ f. eqb-false k line_end e (sym f)) in
          rw (none-closed t w k other) (ap (span_and false) (moved-span k (key-of-line k key other) other w))

-- One key closes a line, or none.
pub closed-more : (t : Query) (w : List ℕ) (k : ℕ) → closed_lines t (w ++ (k ∷ [])) ≡ closed_lines t w + cond (closes_between t w (k ∷ [])) 1 0
closed-more t w k =
    let x : ℕ = cond (closes_between t w (k ∷ [])) 1 0 in
    closed-append t w (k ∷ [])
    ∙ ap (λ (n : ℕ). closed_lines t w + n + x) (closed-one t k)
    ∙ ap (λ (n : ℕ). n + x) (add-zero (closed_lines t w))
