-- Laws of the edges of runs: of the one run after the other, and the line across where a CR and an LF meet.
use Prim.Native.Nat.{ℕ, ◌^◌, ◌<◌, ◌≤◌}
use native.Mathlib.Omega.{arith}
use mathlib.Core.Path.{◌≡◌, refl, sym, ap, ◌∙◌}
use mathlib.Core.Bool.{Bool, true, false, not, cond, ◌&&◌, ◌||◌, and_comm, and-false, or-false}
use mathlib.Core.List.{List, [], ◌∷◌, ◌++◌, append-nil}
use lib.Dec.{eqb}
use lib.ListN.{get_or}
use borrow.Author.Tests.{eqb-true}
use Rattle.runs.specs.Keys.{line_end}
use Rattle.runs.proofs.Tests.{eqb_swap}
use Rattle.stateset.specs.Set.{bit, word, any_below, common}
use Rattle.stateset.proofs.Sets.{bit_word, bit-one, bit-zero, word-ext, word_lt, word_none}
use Rattle.stateset.proofs.Some.{any-ext, any_at, any_none}
use Rattle.pattern.specs.Form.{atom_count}
use Rattle.pattern.specs.Meaning.{Query}
use Rattle.pattern.specs.Moves.{states, leads, accepted_from}
use Rattle.pattern.specs.declared.automaton.Accepting.{Accepting}
use Rattle.pattern.proofs.Leading.{leads-none, leads-start, accepted-append}
use Rattle.lines.specs.Parts.{begins_with_end, first_part, later_parts, last_part}
use Rattle.lines.specs.Lines.{carriage_return, is_open, trimmed, ends_in_return}
use Rattle.lines.proofs.Trims.{trim-none, trim-append, trim-kept, trim-return, ends-none, ends_more, ends-append, ends_join}
use Rattle.lines.proofs.PartLaws.{later-none, later-into, later-kept, later-open, last-open, last-closed, key-part, first-begins, first-open, begins-none, begins-end, begins-more, begins-append}
use Rattle.spans.specs.declared.span.Span.{Span}
use Rattle.spans.specs.declared.span.Edges.{Edges}
use Rattle.spans.specs.Spans.{rows_of, trims_with, edges, span_with, span}
use Rattle.spans.specs.Joining.{no_edges, is_empty, leads_into, trims_joined, joined_edges, return_edges, key_edges, moved_edges, end_edges}
use Rattle.spans.proofs.RowLaws.{row_of, common-told}

-- the rows of a run without a line end: where it leads from each state
abbrev pub run_rows : Query → List ℕ → List ℕ
run_rows t w = rows_of (states t) (λ q p. leads t q w p)

-- the states from which a line is accepted
abbrev pub heads_of : Query → List ℕ → ℕ
heads_of t l = word (states t) (λ q. accepted_from t q l)

-- a set that has line-start
pub common-start : (s x : ℕ) → 0 < s → common s x 1 ≡ bit x 0
common-start s x h =
    any-ext s (λ p. bit x p && bit 1 p) (λ p. eqb 0 p && bit x p) (λ p l. ap (λ (b : Bool). bit x p && b) (bit-one 0 p) ∙ and_comm (bit x p) (eqb 0 p))
    ∙ any_at s 0 (bit x) h

-- the keys of a line lead to line-start exactly if there are none
pub starts : (t : Query) (l : List ℕ) → leads t 0 l 0 ≡ not (is_open l)
starts t [] = leads-none t 0 0
starts t (c ∷ l) = leads-start t l c 0

-- no state is in the empty set
common-none : (s x : ℕ) → common s x 0 ≡ false
common-none s x = any_none s (λ p. bit x p && bit 0 p) (λ p. rw (bit-zero p) (and-false (bit x p)))

-- and none leads into it
leads-nowhere : (s : ℕ) (a : Span) (x : Bool) (q : ℕ) → leads_into s 0 x a q ≡ false
leads-nowhere s a false q = common-none s (get_or a.rows q 0)
leads-nowhere s a true q = rw (common-none s a.tail) (and-false (eqb 0 q))

and-swap : (a b c : Bool) → (a && (b && c)) ≡ (b && (a && c))
and-swap true b c = refl
and-swap false true c = refl
and-swap false false c = refl

edges-same : {x y : ℕ} {a b c d : Bool} → x ≡ y → a ≡ b → c ≡ d
    → ◌≡◌ {A = Edges} (record { trimmed = x; leading = a; trailing = c }) (record { trimmed = y; leading = b; trailing = d })
edges-same e f g = rw (e, f, g) refl

-- a span has the edges of its run
with-edges : (t : Query) (w : List ℕ) (ls : List (List ℕ)) → (span_with t w ls).edges ≡ edges t w
with-edges t w [] = refl
with-edges t w (l ∷ ls) = refl

pub span-edges : (t : Query) (w : List ℕ) → (span t w).edges ≡ edges t w
unfolding span
span-edges t w = with-edges t w (later_parts w)

module _ (t : Query) (few : atom_count t.tree ≤ 29) where
  -- the states in word x are those of X
  abbrev pub IsSet : ℕ → (ℕ → Bool) → Type 0
  IsSet x X = (r : ℕ) → r < states t → bit x r ≡ X r

  pub common-is : (x y : ℕ) (X Y : ℕ → Bool) → IsSet x X → IsSet y Y → common (states t) x y ≡ any_below (states t) (λ r. X r && Y r)
  common-is x y X Y e f = common-told (states t) x X e y Y f

  pub row-bit : (u : List ℕ) (q : ℕ) → q < states t → IsSet (get_or (run_rows t u) q 0) (leads t q u)
  row-bit u q h r l = rw (row_of (states t) (λ q p. leads t q u p) q h (omega arith)) (bit_word (states t) (λ p. leads t q u p) r l)

  -- the states of a set, kept
  pub kept : (X : ℕ → Bool) → IsSet (word (states t) X) X
  kept X p l = bit_word (states t) X p l

  -- where keys u lead to the states x, and line l is accepted from the states of its heads
  pub accepted-on : (u : List ℕ) (q x : ℕ) → q < states t → IsSet x (leads t q u) → (l : List ℕ) → common (states t) x (heads_of t l) ≡ accepted_from t q (u ++ l)
  accepted-on u q x h e l =
      common-is x (heads_of t l) (leads t q u) (λ r. accepted_from t r l) e (kept (λ r. accepted_from t r l)) ∙ sym (accepted-append t u l q h)

  -- The line across. Keys u lead from q to the states x; b tells whether u less a final CR is accepted, if there is one.
  module _ (u : List ℕ) (q x : ℕ) (h : q < states t) (e : IsSet x (leads t q u)) (b : Bool) (g : b ≡ (ends_in_return u && accepted_from t q (trimmed u))) where
    pub line-across : (v : List ℕ) {m : List ℕ} {ms : List (List ℕ)} → later_parts v ≡ m ∷ ms
        → cond (ends_in_return u && begins_with_end v) b (common (states t) x (heads_of t (trimmed (first_part v)))) ≡ accepted_from t q (trimmed (u ++ first_part v))
    line-across v f = go (ends_in_return u) refl (begins_with_end v) refl
      where
        apart : begins_with_end v ≡ false → common (states t) x (heads_of t (trimmed (first_part v))) ≡ accepted_from t q (trimmed (u ++ first_part v))
        apart j = accepted-on u q x h e (trimmed (first_part v)) ∙ ap (accepted_from t q) (sym (trim-append u (first_part v) (first-open v f j)))

        go : (c : Bool) → ends_in_return u ≡ c → (d : Bool) → begins_with_end v ≡ d
            → cond (c && d) b (common (states t) x (heads_of t (trimmed (first_part v)))) ≡ accepted_from t q (trimmed (u ++ first_part v))
        go true i true j = g ∙ rw (i, first-begins v j, append-nil u) refl
        go false i true j = rw (first-begins v j, trim-none, append-nil u, trim-kept u i) (accepted-on u q x h e [] ∙ ap (accepted_from t q) (append-nil u))
        go true i false j = apart j
        go false i false j = apart j

  -- the same of a word that may be empty
  accepted-if : (u : List ℕ) (q x : ℕ) → q < states t → IsSet x (leads t q u) → (b : Bool) (l : List ℕ)
      → common (states t) x (word (states t) (λ r. b && accepted_from t r l)) ≡ (b && accepted_from t q (u ++ l))
  accepted-if u q x h e true l = accepted-on u q x h e l
  accepted-if u q x h e false l = rw (← word_none (states t)) (common-none (states t) x)

  -- of all runs only the empty one leads to line-start
  empty-with : (w : List ℕ) (ls : List (List ℕ)) → later_parts w ≡ ls → is_empty (states t) (span_with t w ls) ≡ not (is_open w)
  empty-with w [] e = common-start (states t) (get_or (run_rows t w) 0 0) (omega arith) ∙ row-bit w 0 (omega arith) 0 (omega arith) ∙ starts t w
  empty-with w (l ∷ ls) e = rw (later-open w e) refl

  pub empty-is : (w : List ℕ) → is_empty (states t) (span t w) ≡ not (is_open w)
  unfolding span
  empty-is w = empty-with w (later_parts w) refl

  -- the states in the first word of a run
  pub trimmed-is : (w : List ℕ) (q : ℕ) → q < states t → bit (edges t w).trimmed q ≡ (ends_in_return w && trims_with t w (later_parts w) q)
  unfolding edges
  trimmed-is w q h = bit_word (states t) (λ q. ends_in_return w && trims_with t w (later_parts w) q) q h

  -- joined
  module _ (u : List ℕ) (q : ℕ) (h : q < states t) where
    abbrev TrimsJoin : List ℕ → List (List ℕ) → List (List ℕ) → Type 0
    TrimsJoin v lu lv =
        trims_joined (states t) (span_with t v lv).ended (span_with t u lu) (span_with t v lv) q ≡ (ends_in_return (u ++ v) && trims_with t (u ++ v) (later_parts (u ++ v)) q)

    -- by the second run, where that has a line end
    trims-ended : (v : List ℕ) (lu : List (List ℕ)) {m : List ℕ} {ms : List (List ℕ)} → later_parts u ≡ lu → later_parts v ≡ m ∷ ms → TrimsJoin v lu (m ∷ ms)
    trims-ended v [] e f = trimmed-is v q h ∙ rw (later-into u v e, ends-append u v (later-open v f), f) refl
    trims-ended v (l ∷ ls) e f = trimmed-is v q h ∙ rw (later-kept u v e, ends-append u v (later-open v f), last-closed l ls v f, f) refl

    -- by the first one, where the second is empty
    none-leads : (lu : List (List ℕ)) → leads_into (states t) (edges t []).trimmed (span_with t u lu).ended (span_with t u lu) q ≡ false
    unfolding edges
    none-leads lu = rw (ends-none, ← word_none (states t)) (leads-nowhere (states t) (span_with t u lu) (span_with t u lu).ended q)

    trims-empty : (lu : List (List ℕ)) → later_parts u ≡ lu → TrimsJoin [] lu []
    trims-empty lu e = rw (none-leads lu, empty-with [] [] later-none, with-edges t u lu, append-nil u) (trimmed-is u q h)

    -- by both, where it has keys and no line end
    trims-open : (v : List ℕ) (lu : List (List ℕ)) → is_open v ≡ true → later_parts u ≡ lu → later_parts v ≡ [] → TrimsJoin v lu []
    unfolding edges
    trims-open v [] o e f =
        rw (empty-with v [] f, o, later-into u v e, f, ends-append u v o, trim-append u v o)
        (or-false _ ∙ accepted-if u q (get_or (run_rows t u) q 0) h (row-bit u q h) (ends_in_return v) (trimmed v))
    trims-open v (l ∷ ls) o e f =
        let last = last_part l ls in
        rw (empty-with v [] f, o, later-kept u v e, f, ends-append u v o, last-open l ls v f, trim-append last v o)
        (or-false _
        ∙ ap (λ (b : Bool). eqb 0 q && b) (accepted-if last 0 (word (states t) (leads t 0 last)) (omega arith) (kept (leads t 0 last)) (ends_in_return v) (trimmed v))
        ∙ and-swap (eqb 0 q) (ends_in_return v) (accepted_from t 0 (last ++ trimmed v)))

    trims-join : (v : List ℕ) (lu lv : List (List ℕ)) → later_parts u ≡ lu → later_parts v ≡ lv → TrimsJoin v lu lv
    trims-join v lu (m ∷ ms) e f = trims-ended v lu e f
    trims-join [] lu [] e f = trims-empty lu e
    trims-join (c ∷ v) lu [] e f = trims-open (c ∷ v) lu refl e f

  -- The edges of u and of v, joined, are those of u followed by v.
  pub join-edges : (u v : List ℕ) → joined_edges (states t) (span t u) (span t v) ≡ edges t (u ++ v)
  unfolding edges span joined_edges
  join-edges u v =
      edges-same
      (word-ext (states t)
      (trims_joined (states t) (span t v).ended (span t u) (span t v))
      (λ q. ends_in_return (u ++ v) && trims_with t (u ++ v) (later_parts (u ++ v)) q)
      (λ q h. trims-join u q h v (later_parts u) (later_parts v) refl refl))
      (rw (empty-is u, span-edges t u, span-edges t v) (sym (begins-append u v)))
      (rw (empty-is v, span-edges t u, span-edges t v) (sym (ends_join u v)))

  -- With one key more that is no line end. Word a has the accepting states.
  module _ (p : Accepting) (accepts : (x : ℕ) → common (states t) x p.accepting ≡ common (states t) x (heads_of t [])) (w : List ℕ) where
    -- before a CR
    before-return : (ls : List (List ℕ)) → later_parts w ≡ ls → (q : ℕ) → q < states t
        → leads_into (states t) p.accepting (span_with t w ls).ended (span_with t w ls) q ≡ trims_with t (w ++ (carriage_return ∷ [])) (later_parts (w ++ (carriage_return ∷ []))) q
    before-return [] e q h =
        let row = get_or (run_rows t w) q 0 in
        rw (later-into w (carriage_return ∷ []) e, key-part carriage_return refl, trim-return w)
        (accepts row ∙ accepted-on w q row h (row-bit w q h) [] ∙ ap (accepted_from t q) (append-nil w))
    before-return (l ∷ ls) e q h =
        let last = last_part l ls in
        let tail = word (states t) (leads t 0 last) in
        rw (later-kept w (carriage_return ∷ []) e, last-open l ls (carriage_return ∷ []) (key-part carriage_return refl), trim-return last)
        (ap (λ (b : Bool). eqb 0 q && b) (accepts tail ∙ accepted-on last 0 tail (omega arith) (kept (leads t 0 last)) [] ∙ ap (accepted_from t 0) (append-nil last)))

    moved-trims : (k : ℕ) (b : Bool) → eqb carriage_return k ≡ b
        → cond b (word (states t) (leads_into (states t) p.accepting (span t w).ended (span t w))) 0
        ≡ word (states t) (λ q. ends_in_return (w ++ (k ∷ [])) && trims_with t (w ++ (k ∷ [])) (later_parts (w ++ (k ∷ []))) q)
    unfolding span
    moved-trims k true e =
        let same : carriage_return ≡ k = eqb-true carriage_return k e in
        rw (← same, ends_more w carriage_return)
        (word-ext (states t)
        (leads_into (states t) p.accepting (span t w).ended (span t w))
        (trims_with t (w ++ (carriage_return ∷ [])) (later_parts (w ++ (carriage_return ∷ []))))
        (before-return (later_parts w) refl))
    moved-trims k false e = rw (ends_more w k, e) (word_none (states t))

    pub moved-edges : (k : ℕ) → eqb line_end k ≡ false → moved_edges (states t) p (span t w) k ≡ edges t (w ++ (k ∷ []))
    unfolding edges moved_edges
    moved-edges k other = go (eqb k carriage_return) (eqb_swap carriage_return k)
      where
        leading : (span t w).edges.leading ≡ begins_with_end (w ++ (k ∷ []))
        leading = rw (span-edges t w) (sym (begins-more w k other))

        go : (b : Bool) → eqb carriage_return k ≡ b → cond b (return_edges (states t) p (span t w)) (key_edges (span t w)) ≡ edges t (w ++ (k ∷ []))
        go true e = edges-same (moved-trims k true e) leading (sym (ends_more w k ∙ e))
        go false e = edges-same (moved-trims k false e) leading (sym (ends_more w k ∙ e))

-- of the empty run, and of a line end alone
module _ (t : Query) where
  pub edges_none : no_edges ≡ edges t []
  unfolding edges
  edges_none = rw (ends-none, begins-none) (edges-same (word_none (states t)) refl refl)

  pub edges-end : end_edges ≡ edges t (line_end ∷ [])
  unfolding edges
  edges-end = rw (ends_more [] line_end, begins-end) (edges-same (word_none (states t)) refl refl)

-- The words that tell the edges of a run.
module _ (t : Query) (w : List ℕ) where
  pub edges-begin : (edges t w).leading ≡ begins_with_end w
  unfolding edges
  edges-begin = refl

  pub edges-finish : (edges t w).trailing ≡ ends_in_return w
  unfolding edges
  edges-finish = refl

  -- the first has states of the pattern alone
  pub edges-below : (edges t w).trimmed < 2 ^ states t
  unfolding edges
  edges-below = word_lt (states t) (λ q. ends_in_return w && trims_with t w (later_parts w) q)

  -- and none without a final CR
  pub edges-plain : ends_in_return w ≡ false → (edges t w).trimmed ≡ 0
  unfolding edges
  edges-plain e = rw e (sym (word_none (states t)))

-- Spans without edges, of any words, are joined to one without.
module _ (s : ℕ) (a b : Span) where
  trims-nowhere : (x : Bool) → a.edges.trimmed ≡ 0 → b.edges.trimmed ≡ 0 → (q : ℕ) → trims_joined s x a b q ≡ false
  trims-nowhere true e f q = ap (λ (y : ℕ). bit y q) f ∙ bit-zero q
  trims-nowhere false e f q =
      ap (λ (y : ℕ). leads_into s y a.ended a q || (is_empty s b && bit a.edges.trimmed q)) f
      ∙ ap (λ (y : ℕ). leads_into s 0 a.ended a q || (is_empty s b && bit y q)) e
      ∙ rw (leads-nowhere s a a.ended q, bit-zero q) (and-false (is_empty s b))

  pub join-plain : a.edges ≡ no_edges → b.edges ≡ no_edges → joined_edges s a b ≡ no_edges
  unfolding joined_edges
  join-plain e f =
      edges-same
      (word-ext s (trims_joined s b.ended a b) (λ q. false) (λ q h. trims-nowhere b.ended (ap (λ (d : Edges). d.trimmed) e) (ap (λ (d : Edges). d.trimmed) f) q)
      ∙ sym (word_none s))
      (neither-side a.edges.leading (is_empty s a) b.edges.leading (ap (λ (d : Edges). d.leading) e) (ap (λ (d : Edges). d.leading) f))
      (neither-side b.edges.trailing (is_empty s b) a.edges.trailing (ap (λ (d : Edges). d.trailing) f) (ap (λ (d : Edges). d.trailing) e))
    where
      neither-side : (x y z : Bool) → x ≡ false → z ≡ false → (x || (y && z)) ≡ false
      neither-side x y z g h = rw (g, h) (and-false y)
