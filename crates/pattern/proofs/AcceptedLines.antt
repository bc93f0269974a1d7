-- The states of a pattern lead from line-start to an accepting state on just the lines that match.
use Prim.Native.Nat.{ℕ, zero, suc, ◌+◌, ◌<◌}
use native.Mathlib.Omega.{arith}
use mathlib.Core.Path.{◌≡◌, refl, sym, ap, ◌∙◌}
use mathlib.Core.Logic.{◌⊎◌, inl, inr, ⊎_elim, ◌↔◌}
use mathlib.Core.Bool.{Bool, true, false, not, ◌&&◌, ◌||◌, false≢true}
use mathlib.Core.List.{List, [], ◌∷◌, ◌++◌, append-nil}
use lib.Dec.{eqb, eqb-suc-suc, eqb-suc-zero}
use borrow.Author.Tests.{eqb-true, eq-eqb, not-true}
use Rattle.stateset.proofs.Some.{Witness, any_some, any-witness}
use Rattle.brackets.specs.Sets.{Sets}
use Rattle.pattern.specs.Meaning.{Query, MatchesBranch, Matches, matches}
use Rattle.pattern.specs.States.{nothing_in, first_in_branch, first_in_free, ends_free, ends_anchored, follows, holds_key, empty_free}
use Rattle.pattern.specs.Moves.{states, enters, into, into_end, jumps, target, move, accepting, leads, accepted_from}
use Rattle.pattern.proofs.Meaning.{matches-iff}
use Rattle.pattern.proofs.Continuations.{Step, lifted}
use Rattle.pattern.proofs.SomeBranch.{Some, some-true, true-some, some-map, Tells, some-within, some-step, step-some}
use Rattle.pattern.proofs.BranchStates.{BranchStep, no_key, first_of, last_of, follow_of, holds_of, first-tells, follow-tells, holds-tells, cont-tells, At, After, at-begins, begins-at, Live, live-after, free-after, after-cases, live-step, step-live, live_end, end_live, matches-place, place-matches, nothing-in}
use Rattle.runs.proofs.Tests.{torn, or_cases, or_left, or_right, and_both, and-fst, and-snd, tests-ext}
use Rattle.pattern.specs.Form.{Branch, Pattern, atoms_in, atom_count}
use Rattle.runs.specs.Keys.{line_key, is_line}

-- after atom k some branch matches on; and so where more than found is still to come
abbrev Follows : Query → ℕ → List ℕ → Type 0
Follows t k w = Some (λ b r. After t.sets b r k w) 0 t.tree

abbrev Lives : Query → ℕ → List ℕ → Type 0
Lives t k w = Some (λ b r. Live t.sets b r k w) 0 t.tree

-- a branch without `^` begins, with an atom, somewhere in w
data Mid (t : Query) : List ℕ → Type 0 where
  now : {w : List ℕ} → Step (first_in_free t.tree) (holds_key t) (Follows t) w → Mid t w
  later : {c : ℕ} {w : List ℕ} → Mid t w → Mid t (c ∷ w)

-- what a state still has to see
abbrev Sees : Query → ℕ → List ℕ → Type 0
Sees t zero w = Matches t.sets t.tree w
Sees t (suc zero) w = Mid t w
Sees t (suc (suc zero)) w = Unit
Sees t (suc (suc (suc k))) w = Lives t k w

-- some branch has one of two
some-either : (P Q : ℕ → Branch → Type 0) (b : ℕ) (t : Pattern) → Some (λ d r. P d r ⊎ Q d r) b t → Some P b t ⊎ Some Q b t
some-either P Q b (r ∷ rs) (inl p) = ⊎_elim (λ i. inl (inl i)) (λ i. inr (inl i)) p
some-either P Q b (r ∷ rs) (inr p) = ⊎_elim (λ i. inl (inr i)) (λ i. inr (inr i)) (some-either P Q (b + atoms_in r.pieces) rs p)
some-either P Q b [] x' = elim x' [ ]

-- State mid-line.

-- what can come first in a branch without `^`
abbrev free_of : ℕ → Branch → ℕ → Bool
free_of b r k = not r.start && first_of b r k

free-tells : (k : ℕ) → Tells k (λ b r. free_of b r k ≡ true)
free-tells k b r h = first-tells k b r (and-snd (not r.start) (first_of b r k) h)

-- P of what stands behind some part of w
record Somewhere (P : List ℕ → Type 0) (w : List ℕ) : Type 0 where
  before : List ℕ
  from : List ℕ
  whole : w ≡ before ++ from
  there : P from

-- a branch that can match nothing
abbrev jump_of : Branch → Bool
jump_of r = nothing_in r.pieces && not (r.start && r.end)

module _ (S : Sets) where
  -- the branches of a pattern that matches
  matches-some : (b : ℕ) (t : Pattern) (w : List ℕ) → Matches S t w → Some (λ d r. MatchesBranch S r w) b t
  matches-some b (r ∷ rs) w (Matches.here m) = inl m
  matches-some b (r ∷ rs) w (Matches.later m) = inr (matches-some (b + atoms_in r.pieces) rs w m)
  matches-some b [] w x' = elim x' [ ]

  some-matches : (b : ℕ) (t : Pattern) (w : List ℕ) → Some (λ d r. MatchesBranch S r w) b t → Matches S t w
  some-matches b (r ∷ rs) w (inl m) = Matches.here m
  some-matches b (r ∷ rs) w (inr m) = Matches.later (some-matches (b + atoms_in r.pieces) rs w m)
  some-matches b [] w x' = elim x' [ ]

  after-tells : (k : ℕ) (v : List ℕ) → Tells k (λ b r. After S b r k v)
  after-tells k v b r a = cont-tells S b r.pieces k v a.behind a.goes

  -- State line-start.

  module _ (b : ℕ) (r : Branch) where
    -- a branch that matches where it begins, and where it begins later
    at-matches : (w : List ℕ) → At S r w → MatchesBranch S r w
    at-matches w a = place-matches S r w (record { before = []; from = w; whole = refl; from_start = λ i. refl; at = a })

    later-matches : (w : List ℕ) → r.start ≡ false → Somewhere (At S r) w → MatchesBranch S r w
    later-matches w f p =
        place-matches S r w (record { before = p.before; from = p.from; whole = p.whole; from_start = λ i. torn r.start i f; at = p.there })

    jump-matches : (w : List ℕ) → jump_of r ≡ true → MatchesBranch S r w
    jump-matches w h = go r.start refl (and-snd (nothing_in r.pieces) (not (r.start && r.end)) h)
      where
        empty : nothing_in r.pieces ≡ true
        empty = and-fst (nothing_in r.pieces) (not (r.start && r.end)) h

        go : (s : Bool) → r.start ≡ s → not (s && r.end) ≡ true → MatchesBranch S r w
        go true e n = at-matches w (record { behind = w; leaves = nothing-in S r.pieces w empty; to_end = λ i. torn r.end i (not-true r.end n) })
        go false e n =
            later-matches w e
            (record { before = w; from = []; whole = sym (append-nil w); there = record { behind = []; leaves = nothing-in S r.pieces [] empty; to_end = λ i. refl } })

    -- how a branch matches a line that has a key: it begins later; it can match nothing; or it begins here
    abbrev Begins : ℕ → List ℕ → Type 0
    Begins c w = Somewhere (BranchStep S free_of b r) w ⊎ ((jump_of r ≡ true) ⊎ BranchStep S first_of b r (c ∷ w))

    unanchored : nothing_in r.pieces ≡ true → (r.start ≡ false) ⊎ (r.end ≡ false) → jump_of r ≡ true
    unanchored n e = and_both (nothing_in r.pieces) (not (r.start && r.end)) n (go r.start r.end e)
      where
        go : (s e : Bool) → (s ≡ false) ⊎ (e ≡ false) → not (s && e) ≡ true
        go true true f = ⊎_elim sym sym f
        go true false f = refl
        go false e f = refl

    open-end : (w : List ℕ) {c : ℕ} → (r.end ≡ true → c ∷ w ≡ []) → r.end ≡ false
    open-end w f = go r.end refl
      where
        go : (e : Bool) → r.end ≡ e → r.end ≡ false
        go true e = no_key (sym (f e))
        go false e = e

    branch-begins : (c : ℕ) (w : List ℕ) → MatchesBranch S r (c ∷ w) → Begins c w
    branch-begins c w m = let p = matches-place S r (c ∷ w) m in go p.before p.from p.whole p.from_start p.at
      where
        start-open : {x : ℕ} {u : List ℕ} → (r.start ≡ true → x ∷ u ≡ []) → r.start ≡ false
        start-open f = other r.start refl
          where
            other : (s : Bool) → r.start ≡ s → r.start ≡ false
            other true e = no_key (sym (f e))
            other false e = e

        go : (u x : List ℕ) → c ∷ w ≡ u ++ x → (r.start ≡ true → u ≡ []) → At S r x → Begins c w
        go [] x e f a =
            ⊎_elim
            (λ i. inr (inl (unanchored i.0 (inr (open-end w (λ h. e ∙ i.1 h))))))
            (λ s. inr (inr (lifted s e (λ k i. i) (λ k d i. i) (λ k v g. g))))
            (at-begins S b r x a)
        go (d ∷ u) x e f a =
            let free = start-open f in
            ⊎_elim
            (λ i. inr (inl (unanchored i.0 (inl free))))
            (λ s. inl (record { before = u; from = x; whole = cc; there = lifted s refl (λ k i. and_both (not r.start) (first_of b r k) (rw free refl) i) (λ k d i. i) (λ k v g. g) }))
            (at-begins S b r x a)

    end-begins : MatchesBranch S r [] → nothing_in r.pieces ≡ true
    end-begins m = let p = matches-place S r [] m in go p.before p.from p.whole p.at
      where
        go : (u x : List ℕ) → [] ≡ u ++ x → At S r x → nothing_in r.pieces ≡ true
        go [] x e a = ⊎_elim (λ i. i.0) (λ s. no_key (e ∙ s.whole)) (at-begins S b r x a)
        go (d ∷ u) x e a = no_key e

    nothing-matches : nothing_in r.pieces ≡ true → MatchesBranch S r []
    nothing-matches h = at-matches [] (record { behind = []; leaves = nothing-in S r.pieces [] h; to_end = λ i. refl })

-- States of atoms.
module _ (t : Query) (k : ℕ) where
  lives-follows : (w : List ℕ) → Lives t k w → Follows t k w
  lives-follows w = some-map (λ b r. Live t.sets b r k w) (λ b r. After t.sets b r k w) (λ b r. live-after t.sets b r k w) 0 t.tree

  free-follows : (w : List ℕ) → ends_free t.tree k ≡ true → Follows t k w
  free-follows w h =
      some-map (λ b r. (not r.end && last_of b r k) ≡ true) (λ b r. After t.sets b r k w) (λ b r. free-after t.sets b r k w) 0 t.tree
      (some-true (λ b r. not r.end && last_of b r k) 0 t.tree h)

  follows-cases : (w : List ℕ) → Follows t k w → (ends_free t.tree k ≡ true) ⊎ Lives t k w
  follows-cases w f =
      ⊎_elim
      (λ i. inl (true-some (λ b r. not r.end && last_of b r k) 0 t.tree i))
      (λ i. inr i)
      (some-either (λ b r. (not r.end && last_of b r k) ≡ true) (λ b r. Live t.sets b r k w) 0 t.tree
      (some-map (λ b r. After t.sets b r k w) (λ b r. ((not r.end && last_of b r k) ≡ true) ⊎ Live t.sets b r k w) (λ b r. after-cases t.sets b r k w) 0 t.tree f))

  lives-step : (c : ℕ) (w : List ℕ) → Lives t k (c ∷ w) → Step (follows t.tree k) (holds_key t) (Follows t) (c ∷ w)
  lives-step c w l =
      some-step (λ b r. follow_of b r k) (holds_of t.sets) (After t.sets) 0 t.tree (c ∷ w)
      (some-map (λ b r. Live t.sets b r k (c ∷ w)) (λ b r. Step (follow_of b r k) (holds_of t.sets b r) (After t.sets b r) (c ∷ w)) (λ b r. live-step t.sets b r k c w) 0 t.tree l)

  step-lives : (w : List ℕ) → Step (follows t.tree k) (holds_key t) (Follows t) w → Lives t k w
  step-lives w s =
      some-map (λ b r. Step (follow_of b r k) (holds_of t.sets b r) (After t.sets b r) w) (λ b r. Live t.sets b r k w) (λ b r. step-live t.sets b r k w) 0 t.tree
      (step-some (λ b r. follow_of b r k) (holds_of t.sets) (After t.sets) (λ j. follow-tells k j) (holds-tells t.sets) (after-tells t.sets) 0 t.tree w s)

  lives-end : Lives t k [] → ends_anchored t.tree k ≡ true
  lives-end l =
      true-some (λ b r. r.end && last_of b r k) 0 t.tree
      (some-map (λ b r. Live t.sets b r k []) (λ b r. (r.end && last_of b r k) ≡ true) (λ b r. live_end t.sets b r k) 0 t.tree l)

  end-lives : ends_anchored t.tree k ≡ true → Lives t k []
  end-lives h =
      some-map (λ b r. (r.end && last_of b r k) ≡ true) (λ b r. Live t.sets b r k []) (λ b r. end_live t.sets b r k) 0 t.tree
      (some-true (λ b r. r.end && last_of b r k) 0 t.tree h)

mid-place : {t : Query} {w : List ℕ} → Mid t w → Somewhere (Step (first_in_free t.tree) (holds_key t) (Follows t)) w
mid-place (now {w} s) = record { before = []; from = w; whole = refl; there = s }
mid-place (later {c} m) = let p = mid-place m in record { before = c ∷ p.before; from = p.from; whole = ap (λ (l : List ℕ). c ∷ l) p.whole; there = p.there }

mid-before : {t : Query} (u w : List ℕ) → Mid t w → Mid t (u ++ w)
mid-before [] w m = m
mid-before (c ∷ u) w m = later (mid-before u w m)

-- The whole pattern.
module _ (t : Query) where
  -- a step of a first atom matches
  step-matches : (w : List ℕ) → Step (first_in_branch t.tree) (holds_key t) (Follows t) w → Matches t.sets t.tree w
  step-matches w s =
      some-matches t.sets 0 t.tree w
      (some-map (λ b r. BranchStep t.sets first_of b r w) (λ b r. MatchesBranch t.sets r w) (λ b r s. at-matches t.sets b r w (begins-at t.sets b r w s)) 0 t.tree
      (step-some first_of (holds_of t.sets) (After t.sets) first-tells (holds-tells t.sets) (after-tells t.sets) 0 t.tree w s))

  mid-matches : (c : ℕ) (w : List ℕ) → Mid t w → Matches t.sets t.tree (c ∷ w)
  mid-matches c w m =
      let p = mid-place m in
      some-matches t.sets 0 t.tree (c ∷ w)
      (some-map (λ b r. BranchStep t.sets free_of b r p.from) (λ b r. MatchesBranch t.sets r (c ∷ w)) (λ b r s. one p b r s) 0 t.tree
      (step-some free_of (holds_of t.sets) (After t.sets) free-tells (holds-tells t.sets) (after-tells t.sets) 0 t.tree p.from p.there))
    where
      one : (p : Somewhere (Step (first_in_free t.tree) (holds_key t) (Follows t)) w) (b : ℕ) (r : Branch) → BranchStep t.sets free_of b r p.from → MatchesBranch t.sets r (c ∷ w)
      one p b r s =
          later-matches t.sets b r (c ∷ w)
          (not-true r.start (and-fst (not r.start) (first_of b r s.which) s.comes))
          (record {
            before = c ∷ p.before;
            from = p.from;
            whole = ap (λ (l : List ℕ). c ∷ l) p.whole;
            there = begins-at t.sets b r p.from (lifted s refl (λ k. and-snd (not r.start) (first_of b r k)) (λ k d i. i) (λ k v g. g));
          })

  jump-all : (w : List ℕ) → empty_free t.tree ≡ true → Matches t.sets t.tree w
  jump-all w h =
      some-matches t.sets 0 t.tree w
      (some-map (λ b r. jump_of r ≡ true) (λ b r. MatchesBranch t.sets r w) (λ b r. jump-matches t.sets b r w) 0 t.tree (some-true (λ b r. jump_of r) 0 t.tree h))

  -- the place where a branch begins later
  some-place : (w : List ℕ) (b : ℕ) (u : Pattern) → Some (λ d r. Somewhere (BranchStep t.sets free_of d r) w) b u → Somewhere (λ x. Some (λ d r. BranchStep t.sets free_of d r x) b u) w
  some-place w b (r ∷ rs) (inl p) = record { before = p.before; from = p.from; whole = p.whole; there = inl p.there }
  some-place w b (r ∷ rs) (inr p) =
      let q = some-place w (b + atoms_in r.pieces) rs p in
      record { before = q.before; from = q.from; whole = q.whole; there = inr q.there }
  some-place w b [] x' = elim x' [ ]

  matches-begins : (c : ℕ) (w : List ℕ) → Matches t.sets t.tree (c ∷ w) → Mid t w ⊎ ((empty_free t.tree ≡ true) ⊎ Step (first_in_branch t.tree) (holds_key t) (Follows t) (c ∷ w))
  matches-begins c w m =
      ⊎_elim
      (λ p. let q = some-place w 0 t.tree p in inl (rw q.whole (mid-before q.before q.from (now (some-step free_of (holds_of t.sets) (After t.sets) 0 t.tree q.from q.there)))))
      (λ p.
      inr
      (⊎_elim
      (λ p. inl (true-some (λ b r. jump_of r) 0 t.tree p))
      (λ p. inr (some-step first_of (holds_of t.sets) (After t.sets) 0 t.tree (c ∷ w) p))
      (some-either (λ b r. jump_of r ≡ true) (λ b r. BranchStep t.sets first_of b r (c ∷ w)) 0 t.tree p)))
      (some-either
      (λ b r. Somewhere (BranchStep t.sets free_of b r) w)
      (λ b r. (jump_of r ≡ true) ⊎ BranchStep t.sets first_of b r (c ∷ w))
      0
      t.tree
      (some-map (λ b r. MatchesBranch t.sets r (c ∷ w)) (λ b r. Begins t.sets b r c w) (λ b r. branch-begins t.sets b r c w) 0 t.tree (matches-some t.sets 0 t.tree (c ∷ w) m)))

  -- Each state sees the empty rest of a line exactly if it accepts.
  accepts-end : (q : ℕ) → Sees t q [] → accepting t.tree q ≡ true
  unfolding accepting
  accepts-end zero m =
      true-some (λ b r. nothing_in r.pieces) 0 t.tree
      (some-map (λ b r. MatchesBranch t.sets r []) (λ b r. nothing_in r.pieces ≡ true) (λ b r. end-begins t.sets b r) 0 t.tree (matches-some t.sets 0 t.tree [] m))
  accepts-end (suc zero) (now s) = no_key s.whole
  accepts-end (suc (suc zero)) u = refl
  accepts-end (suc (suc (suc k))) l = lives-end t k l

  end-accepts : (q : ℕ) → accepting t.tree q ≡ true → Sees t q []
  unfolding accepting
  end-accepts zero h =
      some-matches t.sets 0 t.tree []
      (some-map (λ b r. nothing_in r.pieces ≡ true) (λ b r. MatchesBranch t.sets r []) (λ b r. nothing-matches t.sets b r) 0 t.tree (some-true (λ b r. nothing_in r.pieces) 0 t.tree h))
  end-accepts (suc zero) h = absurd (false≢true h)
  end-accepts (suc (suc zero)) h = tt
  end-accepts (suc (suc (suc k))) h = end-lives t k h

  -- an atom of the pattern
  pub holds-below : (k c : ℕ) → holds_key t k c ≡ true → k < atom_count t.tree
  holds-below k c h =
      let w = some-within k (λ b r. holds_of t.sets b r k c ≡ true) (holds-tells t.sets k c) 0 t.tree (some-true (λ b r. holds_of t.sets b r k c) 0 t.tree h) in
      omega arith

  -- a move, and what is seen behind it
  record Next (q c : ℕ) (w : List ℕ) : Type 0 where
    to : ℕ
    moves : move t q c to ≡ true
    sees : Sees t to w

  module _ (q c : ℕ) (w : List ℕ) (l : line_key c ≡ true) where
    moving : (p : ℕ) → target t q c p ≡ true → Sees t p w → Next q c w
    unfolding move
    moving p h s = record { to = p; moves = and_both (line_key c) (target t q c p) l h; sees = s }

    -- an atom is entered: it goes on, or is found
    entering : Step (enters t.tree q) (holds_key t) (Follows t) (c ∷ w) → Next q c w
    unfolding target
    entering s = go s.which s.comes (rw (← same_key) at s.holding) (rw (← same_rest) at s.goes)
      where
        same_key : c ≡ s.taken
        same_key = let e = s.whole in cc

        same_rest : w ≡ s.rest
        same_rest = let e = s.whole in cc

        go : (k : ℕ) → enters t.tree q k ≡ true → holds_key t k c ≡ true → Follows t k w → Next q c w
        go k e h f =
            let i : into t q c k ≡ true = and_both (enters t.tree q k) (holds_key t k c) e h in
            ⊎_elim
            (λ g.
            moving 2
            (or_right (eqb q 2) (jumps t.tree q || into_end t q c)
            (or_right (jumps t.tree q) (into_end t q c) (any_some (atom_count t.tree) k (λ k. into t q c k && ends_free t.tree k) (holds-below k c h) (and_both (into t q c k) (ends_free t.tree k) i g))))
            tt)
            (λ v. moving (suc (suc (suc k))) i v)
            (follows-cases t k w f)

  -- Each state sees a key and a rest exactly if a move on the key leads to a state that sees the rest.
  sees-next : (q c : ℕ) (w : List ℕ) → line_key c ≡ true → Sees t q (c ∷ w) → Next q c w
  unfolding target enters
  sees-next zero c w l m =
      ⊎_elim
      (λ i. moving 0 c w l 1 refl i)
      (λ i.
      ⊎_elim
      (λ j. moving 0 c w l 2 (or_left (empty_free t.tree) (into_end t 0 c) j) tt)
      (λ s. entering 0 c w l s)
      i)
      (matches-begins c w m)
  sees-next (suc zero) c w l (now s) = entering 1 c w l s
  sees-next (suc zero) c w l (later m) = moving 1 c w l 1 refl m
  sees-next (suc (suc zero)) c w l u = moving 2 c w l 2 refl tt
  sees-next (suc (suc (suc k))) c w l v = entering (suc (suc (suc k))) c w l (lives-step t k c w v)

  -- what is seen behind a step into an atom
  entered : (q c k : ℕ) (w : List ℕ) → into t q c k ≡ true → Follows t k w → Step (enters t.tree q) (holds_key t) (Follows t) (c ∷ w)
  entered q c k w i f =
      record {
        taken = c;
        rest = w;
        whole = refl;
        which = k;
        comes = and-fst (enters t.tree q k) (holds_key t k c) i;
        holding = and-snd (enters t.tree q k) (holds_key t k c) i;
        goes = f;
      }

  ended : (q c : ℕ) (w : List ℕ) → into_end t q c ≡ true → Step (enters t.tree q) (holds_key t) (Follows t) (c ∷ w)
  ended q c w h =
      let n = any-witness (atom_count t.tree) (λ k. into t q c k && ends_free t.tree k) h in
      let k = n.which in
      entered q c k w (and-fst (into t q c k) (ends_free t.tree k) n.has) (free-follows t k w (and-snd (into t q c k) (ends_free t.tree k) n.has))

  -- a state that is entered only by atoms
  module _ (q c : ℕ) (w : List ℕ) (sees : Step (enters t.tree q) (holds_key t) (Follows t) (c ∷ w) → Sees t q (c ∷ w)) where
    by-atom : (k : ℕ) → into t q c k ≡ true → Lives t k w → Sees t q (c ∷ w)
    by-atom k i v = sees (entered q c k w i (lives-follows t k w v))

    by_end : (x : Bool) → x ≡ false → (x || (jumps t.tree q || into_end t q c)) ≡ true → (jumps t.tree q ≡ true → Sees t q (c ∷ w)) → Sees t q (c ∷ w)
    by_end x f h j =
        ⊎_elim
        (λ i. torn x i f)
        (λ i. ⊎_elim j (λ e. sees (ended q c w e)) (or_cases (jumps t.tree q) (into_end t q c) i))
        (or_cases x (jumps t.tree q || into_end t q c) h)

  next-sees : (q c : ℕ) (w : List ℕ) (p : ℕ) → target t q c p ≡ true → Sees t p w → Sees t q (c ∷ w)
  unfolding target enters
  next-sees q c w zero h s = absurd (false≢true h)
  next-sees zero c w (suc zero) h s = mid-matches c w s
  next-sees zero c w (suc (suc zero)) h s = by_end 0 c w (step-matches (c ∷ w)) (eqb 0 2) refl h (λ j. jump-all (c ∷ w) j)
  next-sees zero c w (suc (suc (suc k))) h s = by-atom 0 c w (step-matches (c ∷ w)) k h s
  next-sees (suc zero) c w (suc zero) h s = later s
  next-sees (suc zero) c w (suc (suc zero)) h s = by_end 1 c w (λ i. now i) (eqb 1 2) refl h (λ j. absurd (false≢true j))
  next-sees (suc zero) c w (suc (suc (suc k))) h s = by-atom 1 c w (λ i. now i) k h s
  next-sees (suc (suc zero)) c w (suc p) h s = tt
  next-sees (suc (suc (suc j))) c w (suc zero) h s = absurd (false≢true (rw (eqb-suc-zero, eqb-suc-suc, eqb-suc-zero) at h))
  next-sees (suc (suc (suc j))) c w (suc (suc zero)) h s =
      by_end (suc (suc (suc j))) c w (λ i. step-lives t j (c ∷ w) i) (eqb (suc (suc (suc j))) 2) (rw (eqb-suc-suc, eqb-suc-suc, eqb-suc-zero) refl) h
      (λ i. absurd (false≢true (rw eqb-suc-zero at (and-fst (eqb (suc (suc (suc j))) 0) (empty_free t.tree) i))))
  next-sees (suc (suc (suc j))) c w (suc (suc (suc k))) h s = by-atom (suc (suc (suc j))) c w (λ i. step-lives t j (c ∷ w) i) k h s

  -- a move leads to a state of the pattern, on a key of a line
  pub move-below : (q c p : ℕ) → move t q c p ≡ true → p < states t
  unfolding move target
  move-below q c zero h = omega arith
  move-below q c (suc zero) h = omega arith
  move-below q c (suc (suc zero)) h = omega arith
  move-below q c (suc (suc (suc k))) h =
      omega (arith, holds-below k c (and-snd (enters t.tree q k) (holds_key t k c) (and-snd (line_key c) (into t q c k) h)))

  leads-sees : (w : List ℕ) (q p : ℕ) → leads t q w p ≡ true → Sees t p [] → Sees t q w
  unfolding leads move
  leads-sees [] q p h s = rw (eqb-true q p h) s
  leads-sees (c ∷ w) q p h s =
      let n = any-witness (states t) (λ r. move t q c r && leads t r w p) h in
      let r = n.which in
      next-sees q c w r
      (and-snd (line_key c) (target t q c r) (and-fst (move t q c r) (leads t r w p) n.has))
      (leads-sees w r p (and-snd (move t q c r) (leads t r w p) n.has) s)

  sees-accepted : (w : List ℕ) (q : ℕ) → q < states t → is_line w ≡ true → Sees t q w → Witness (states t) (λ p. leads t q w p && accepting t.tree p)
  unfolding leads
  sees-accepted [] q b l s = record { which = q; below = b; has = and_both (eqb q q) (accepting t.tree q) (eq-eqb q q refl) (accepts-end q s) }
  sees-accepted (c ∷ w) q b l s =
      let n = sees-next q c w (and-fst (line_key c) (is_line w) l) s in
      let r = n.to in
      let d = move-below q c r n.moves in
      let e = sees-accepted w r d (and-snd (line_key c) (is_line w) l) n.sees in
      let p = e.which in
      record {
        which = p;
        below = e.below;
        has =
            and_both (leads t q (c ∷ w) p) (accepting t.tree p)
            (any_some (states t) r (λ r. move t q c r && leads t r w p) d (and_both (move t q c r) (leads t r w p) n.moves (and-fst (leads t r w p) (accepting t.tree p) e.has)))
            (and-snd (leads t r w p) (accepting t.tree p) e.has);
      }

  -- The states lead from line-start to an accepting state exactly if the line matches.
  pub states-iff : (w : List ℕ) → is_line w ≡ true → (accepted_from t 0 w ≡ true) ↔ Matches t.sets t.tree w
  unfolding accepted_from
  states-iff w l = (
    λ h.
        let n = any-witness (states t) (λ p. leads t 0 w p && accepting t.tree p) h in
        let p = n.which in
        leads-sees w 0 p (and-fst (leads t 0 w p) (accepting t.tree p) n.has) (end-accepts p (and-snd (leads t 0 w p) (accepting t.tree p) n.has)),
    λ m.
        let n = sees-accepted w 0 (omega arith) l m in
        any_some (states t) n.which (λ p. leads t 0 w p && accepting t.tree p) n.below n.has,
  )

  -- and so the test by states is the test by meaning
  pub states-match : (w : List ℕ) → is_line w ≡ true → accepted_from t 0 w ≡ matches t w
  states-match w l =
      let s = states-iff w l in
      let m = matches-iff t w in
      tests-ext (accepted_from t 0 w) (matches t w) (λ h. m.1 (s.0 h)) (λ h. s.1 (m.0 h))
