-- Laws of what leads where: one run of keys after another.
use Prim.Native.Nat.{ℕ, ◌<◌}
use native.Mathlib.Omega.{arith}
use mathlib.Core.Path.{◌≡◌, refl, sym, ap, ◌∙◌}
use mathlib.Core.Bool.{Bool, true, false, ◌&&◌, and-false}
use mathlib.Core.List.{List, [], ◌∷◌, ◌++◌}
use lib.Dec.{eqb}
use borrow.Author.Tests.{eqb-true, eq-eqb}
use Rattle.stateset.specs.Set.{any_below}
use Rattle.stateset.proofs.Some.{any_some, any-witness, any-ext, any_none, any-through, any_at}
use Rattle.pattern.specs.Meaning.{Query}
use Rattle.pattern.specs.Moves.{states, target, move, accepting, leads, accepted_from}
use Rattle.pattern.proofs.AcceptedLines.{move-below}
use Rattle.runs.proofs.Tests.{and_both, and-fst, and-snd, tests-ext}
use Rattle.runs.specs.Keys.{line_key}

module _ (t : Query) where
  -- no key leads anywhere else
  pub leads-none : (q p : ℕ) → leads t q [] p ≡ eqb q p
  unfolding leads
  leads-none q p = refl

  -- a state is accepted from if some state that is led to accepts
  pub accepted-is : (q : ℕ) (w : List ℕ) → accepted_from t q w ≡ any_below (states t) (λ p. leads t q w p && accepting t.tree p)
  unfolding accepted_from
  accepted-is q w = refl

  -- keys lead through a state between
  pub leads-append : (u v : List ℕ) (q p : ℕ) → q < states t → leads t q (u ++ v) p ≡ any_below (states t) (λ r. leads t q u r && leads t r v p)
  unfolding leads
  leads-append [] v q p h = sym (any_at (states t) q (λ r. leads t r v p) h)
  leads-append (c ∷ u) v q p h =
      any-ext (states t) (λ r. move t q c r && leads t r (u ++ v) p) (λ r. move t q c r && any_below (states t) (λ x. leads t r u x && leads t x v p))
      (λ r l. ap (λ (b : Bool). move t q c r && b) (leads-append u v r p l))
      ∙ any-through (states t) (move t q c) (λ r x. leads t r u x) (λ x. leads t x v p)

  -- and to an accepting state
  pub accepted-append : (u v : List ℕ) (q : ℕ) → q < states t → accepted_from t q (u ++ v) ≡ any_below (states t) (λ r. leads t q u r && accepted_from t r v)
  unfolding accepted_from
  accepted-append u v q h =
      any-ext (states t) (λ p. leads t q (u ++ v) p && accepting t.tree p) (λ p. any_below (states t) (λ r. leads t q u r && leads t r v p) && accepting t.tree p)
      (λ p l. ap (λ (b : Bool). b && accepting t.tree p) (leads-append u v q p h))
      ∙ sym (any-through (states t) (leads t q u) (λ r p. leads t r v p) (accepting t.tree))

  -- one key leads as it moves
  pub leads_one : (c q p : ℕ) → leads t q (c ∷ []) p ≡ move t q c p
  unfolding leads
  leads_one c q p = tests-ext _ _ forth back
    where
      forth : any_below (states t) (λ r. move t q c r && eqb r p) ≡ true → move t q c p ≡ true
      forth h =
          let w = any-witness (states t) (λ r. move t q c r && eqb r p) h in
          let r = w.which in
          let e : r ≡ p = eqb-true r p (and-snd (move t q c r) (eqb r p) w.has) in
          rw e at (and-fst (move t q c r) (eqb r p) w.has)

      back : move t q c p ≡ true → any_below (states t) (λ r. move t q c r && eqb r p) ≡ true
      back h = any_some (states t) p (λ r. move t q c r && eqb r p) (move-below t q c p h) (and_both (move t q c p) (eqb p p) h (eq-eqb p p refl))

  -- a state of the pattern leads to one
  pub leads-below : (w : List ℕ) (q p : ℕ) → q < states t → leads t q w p ≡ true → p < states t
  unfolding leads
  leads-below [] q p h l = let e : q ≡ p = eqb-true q p l in omega arith
  leads-below (c ∷ w) q p h l =
      let n = any-witness (states t) (λ r. move t q c r && leads t r w p) l in
      let r = n.which in
      leads-below w r p n.below (and-snd (move t q c r) (leads t r w p) n.has)

  -- no key leads to line-start
  pub leads-start : (w : List ℕ) (c q : ℕ) → leads t q (c ∷ w) 0 ≡ false
  unfolding leads move target
  leads-start [] c q = leads_one c q 0 ∙ and-false (line_key c)
  leads-start (d ∷ w) c q =
      any_none (states t) (λ r. move t q c r && leads t r (d ∷ w) 0) (λ r. ap (λ (b : Bool). move t q c r && b) (leads-start w d r) ∙ and-false (move t q c r))
