-- What may still be taken after an atom was: the link between what an expression leaves and what can come first, follow and end.
use Prim.Native.Nat.{ℕ, ◌+◌}
use mathlib.Core.Path.{◌≡◌, refl, ◌∙◌}
use mathlib.Core.Logic.{◌⊎◌, inl, inr, ⊎_elim}
use mathlib.Core.Bool.{Bool, true, ◌&&◌, ◌||◌, false≢true}
use mathlib.Core.List.{List, ◌∷◌}
use lib.Dec.{eqb}
use borrow.Author.Tests.{eqb-true, eq-eqb}
use Rattle.brackets.specs.Sets.{Sets}
use Rattle.pattern.specs.States.{nothing, first, last, follow, holds}
use Rattle.pattern.proofs.Leaves.{Leaves, plus-star, star-cases}
use Rattle.pattern.proofs.Leaves.Leaves.{key, after, inside, left, right, never, again, once, more, absent, present}
use Rattle.pattern.proofs.Numbering.{Within, apart, of_either, one-within, first-within, holds-within, follow-within}
use Rattle.runs.proofs.Tests.{or_cases, or_left, or_right, and_both, and-fst, and-snd}
use Rattle.pattern.specs.Form.{Expr, atom, group, star, plus, opt, seq, alt, atoms}

-- A and then B
pub record Then (A B : List ℕ → Type 0) : Type 0 where
  pub between : List ℕ
  pub front : A between
  pub back : B between

-- a key of w is taken by an atom that may come now and has the key, and what is left goes on from there
pub record Step (may : ℕ → Bool) (has : ℕ → ℕ → Bool) (On : ℕ → List ℕ → Type 0) (w : List ℕ) : Type 0 where
  pub taken : ℕ
  pub rest : List ℕ
  pub whole : w ≡ taken ∷ rest
  pub which : ℕ
  pub comes : may which ≡ true
  pub holding : has which taken ≡ true
  pub goes : On which rest

-- nothing of w is taken where that may end, or a step is
abbrev pub EndsOr : Bool → (ℕ → Bool) → (ℕ → ℕ → Bool) → (ℕ → List ℕ → Type 0) → List ℕ → List ℕ → Type 0
EndsOr ends may has On w v = ((ends ≡ true) × (w ≡ v)) ⊎ Step may has On w

-- n has every number that m has
abbrev pub Wider : (ℕ → Bool) → (ℕ → Bool) → Type 0
Wider m n = (k : ℕ) → m k ≡ true → n k ≡ true

-- a step of a part is one of the whole
module _ {m n : ℕ → Bool} {H I : ℕ → ℕ → Bool} {F G : ℕ → List ℕ → Type 0} where
  pub lifted : {w u : List ℕ} (s : Step m H F u) → w ≡ u → Wider m n → ((k : ℕ) → Wider (H k) (I k)) → ((k : ℕ) (r : List ℕ) → F k r → G k r) → Step n I G w
  lifted s i may has goes =
      record {
        taken = s.taken;
        rest = s.rest;
        whole = i ∙ s.whole;
        which = s.which;
        comes = may s.which s.comes;
        holding = has s.which s.taken s.holding;
        goes = goes s.which s.rest s.goes;
      }

  pub kept : {x y : Bool} {w v : List ℕ} → EndsOr x m H F w v → (x ≡ true → y ≡ true) → Wider m n → ((k : ℕ) → Wider (H k) (I k)) → ((k : ℕ) (r : List ℕ) → F k r → G k r) → EndsOr y n I G w v
  kept (inl i) ends may has goes = inl (ends i.0, i.1)
  kept (inr s) ends may has goes = inr (lifted s refl may has goes)

module _ (S : Sets) where
  -- after atom k of e was taken, the rest of e takes a first part of w and leaves v
  abbrev pub Cont : ℕ → Expr → ℕ → List ℕ → List ℕ → Type 0
  Cont b (atom a) k w v = (b ≡ k) × (w ≡ v)
  Cont b (group e) k w v = Cont b e k w v
  Cont b (star e) k w v = Then (λ x. Cont b e k w x) (λ x. Leaves S (star e) x v)
  Cont b (plus e) k w v = Then (λ x. Cont b e k w x) (λ x. Leaves S (star e) x v)
  Cont b (opt e) k w v = Cont b e k w v
  Cont b (seq p q) k w v = Then (λ x. Cont b p k w x) (λ x. Leaves S q x v) ⊎ Cont (b + atoms p) q k w v
  Cont b (alt p q) k w v = Cont b p k w v ⊎ Cont (b + atoms p) q k w v

  -- an atom after which something is to come is one of the expression
  pub cont-within : (b : ℕ) (e : Expr) (k : ℕ) (w v : List ℕ) → Cont b e k w v → Within b (atoms e) k
  unfolding atoms
  cont-within b (atom a) k w v (s, t) = one-within s
  cont-within b (group e) k w v c = cont-within b e k w v c
  cont-within b (star e) k w v c = cont-within b e k w c.between c.front
  cont-within b (plus e) k w v c = cont-within b e k w c.between c.front
  cont-within b (opt e) k w v c = cont-within b e k w v c
  cont-within b (seq p q) k w v (inl c) = of_either (atoms p) (atoms q) (inl (cont-within b p k w c.between c.front))
  cont-within b (seq p q) k w v (inr c) = of_either (atoms p) (atoms q) (inr (cont-within (b + atoms p) q k w v c))
  cont-within b (alt p q) k w v (inl c) = of_either (atoms p) (atoms q) (inl (cont-within b p k w v c))
  cont-within b (alt p q) k w v (inr c) = of_either (atoms p) (atoms q) (inr (cont-within (b + atoms p) q k w v c))

  -- an expression that can match nothing leaves the whole line
  pub nothing-leaves : (e : Expr) (w : List ℕ) → nothing e ≡ true → Leaves S e w w
  unfolding nothing
  nothing-leaves (atom a) w h = absurd (false≢true h)
  nothing-leaves (group e) w h = inside (nothing-leaves e w h)
  nothing-leaves (star e) w h = never
  nothing-leaves (plus e) w h = once (nothing-leaves e w h)
  nothing-leaves (opt e) w h = absent
  nothing-leaves (seq p q) w h =
      after (nothing-leaves p w (and-fst (nothing p) (nothing q) h)) (nothing-leaves q w (and-snd (nothing p) (nothing q) h))
  nothing-leaves (alt p q) w h = ⊎_elim (λ i. left (nothing-leaves p w i)) (λ i. right (nothing-leaves q w i)) (or_cases (nothing p) (nothing q) h)

  -- e takes nothing and may end, or takes a step
  abbrev pub Goes : Bool → (ℕ → Bool) → ℕ → Expr → List ℕ → List ℕ → Type 0
  Goes ends may b e w v = EndsOr ends may (holds S b e) (λ k r. Cont b e k r v) w v

  -- what leaves v begins so: nothing was taken, or a first atom
  module _ (b : ℕ) (e : Expr) (starts : (w v : List ℕ) → Leaves S e w v → Goes (nothing e) (first b e) b e w v) where
    plus-starts : {w v : List ℕ} → Leaves S (plus e) w v → Goes (nothing e) (first b e) b (plus e) w v
    unfolding holds
    plus-starts (once {w} {v} l) =
        kept (starts w v l) (λ i. i) (λ k i. i) (λ k c i. i) (λ k r c. record { between = v; front = c; back = never })
    plus-starts (more {w} {x} {v} l m) =
        ⊎_elim
        (λ i. ⊎_elim (λ j. inl (i.0, i.1 ∙ j.1)) (λ s. inr (lifted s i.1 (λ k i. i) (λ k c i. i) (λ k r c. c))) (plus-starts m))
        (λ s. inr (lifted s refl (λ k i. i) (λ k c i. i) (λ k r c. record { between = x; front = c; back = plus-star m })))
        (starts w x l)

  pub starts : (b : ℕ) (e : Expr) (w v : List ℕ) → Leaves S e w v → Goes (nothing e) (first b e) b e w v
  unfolding nothing first holds
  starts b (atom a) w v (key {k} h) = inr (record { taken = k; rest = v; whole = refl; which = b; comes = eq-eqb b b refl; holding = and_both (eqb b b) (S a k) (eq-eqb b b refl) h; goes = (refl, refl) })
  starts b (group e) w v (inside l) = kept (starts b e w v l) (λ i. i) (λ k i. i) (λ k c i. i) (λ k r c. c)
  starts b (star e) w v l =
      ⊎_elim
      (λ i. inl (refl, i))
      (λ m. kept (plus-starts b e (λ w v l. starts b e w v l) m) (λ i. refl) (λ k i. i) (λ k c i. i) (λ k r c. c))
      (star-cases l)
  starts b (plus e) w v l = plus-starts b e (λ w v l. starts b e w v l) l
  starts b (opt e) w v absent = inl (refl, refl)
  starts b (opt e) w v (present l) = kept (starts b e w v l) (λ i. refl) (λ k i. i) (λ k c i. i) (λ k r c. c)
  starts b (seq p q) w v (after {x} l m) =
      ⊎_elim
      (λ i.
      ⊎_elim
      (λ j. inl (and_both (nothing p) (nothing q) i.0 j.0, i.1 ∙ j.1))
      (λ s.
      inr
      (lifted s i.1
      (λ k j. or_right (first b p k) (nothing p && first (b + atoms p) q k) (and_both (nothing p) (first (b + atoms p) q k) i.0 j))
      (λ k c j. or_right (holds S b p k c) (holds S (b + atoms p) q k c) j)
      (λ k r c. inr c)))
      (starts (b + atoms p) q x v m))
      (λ s.
      inr
      (lifted s refl
      (λ k j. or_left (first b p k) (nothing p && first (b + atoms p) q k) j)
      (λ k c j. or_left (holds S b p k c) (holds S (b + atoms p) q k c) j)
      (λ k r c. inl (record { between = x; front = c; back = m }))))
      (starts b p w x l)
  starts b (alt p q) w v (left l) =
      kept (starts b p w v l)
      (or_left (nothing p) (nothing q))
      (λ k. or_left (first b p k) (first (b + atoms p) q k))
      (λ k c. or_left (holds S b p k c) (holds S (b + atoms p) q k c))
      (λ k r c. inl c)
  starts b (alt p q) w v (right l) =
      kept (starts (b + atoms p) q w v l)
      (or_right (nothing p) (nothing q))
      (λ k. or_right (first b p k) (first (b + atoms p) q k))
      (λ k c. or_right (holds S b p k c) (holds S (b + atoms p) q k c))
      (λ k r c. inr c)

  -- what follows atom k begins so: k ends the expression, or an atom that can follow it comes
  module _ (b : ℕ) (e : Expr) (k : ℕ) (goes_on : (w v : List ℕ) → Cont b e k w v → Goes (last b e k) (follow b e k) b e w v) where
    again-goes : {w v : List ℕ} → Cont b (star e) k w v → Goes (last b e k) (λ j. follow b e k j || (last b e k && first b e j)) b (star e) w v
    unfolding first holds
    again-goes {w} {v} t =
        ⊎_elim
        (λ i.
        ⊎_elim
        (λ j. inl (i.0, i.1 ∙ j.1))
        (λ s.
        inr
        (lifted s i.1 (λ j f. or_right (follow b e k j) (last b e k && first b e j) (and_both (last b e k) (first b e j) i.0 f)) (λ j c h. h) (λ j r c. c)))
        (starts b (star e) t.between v t.back))
        (λ s.
        inr
        (lifted s refl (λ j f. or_left (follow b e k j) (last b e k && first b e j) f) (λ j c h. h) (λ j r c. record { between = t.between; front = c; back = t.back })))
        (goes_on w t.between t.front)

  pub goes_on : (b : ℕ) (e : Expr) (k : ℕ) (w v : List ℕ) → Cont b e k w v → Goes (last b e k) (follow b e k) b e w v
  unfolding last follow holds
  goes_on b (atom a) k w v (s, t) = inl (eq-eqb b k s, t)
  goes_on b (group e) k w v c = kept (goes_on b e k w v c) (λ i. i) (λ j i. i) (λ j c i. i) (λ j r c. c)
  goes_on b (star e) k w v c = again-goes b e k (λ w v c. goes_on b e k w v c) c
  goes_on b (plus e) k w v c = kept (again-goes b e k (λ w v c. goes_on b e k w v c) c) (λ i. i) (λ j i. i) (λ j c i. i) (λ j r c. c)
  goes_on b (opt e) k w v c = kept (goes_on b e k w v c) (λ i. i) (λ j i. i) (λ j c i. i) (λ j r c. c)
  goes_on b (seq p q) k w v (inl t) =
      let x = t.between in
      ⊎_elim
      (λ i.
      ⊎_elim
      (λ j. inl (or_left (nothing q && last b p k) (last (b + atoms p) q k) (and_both (nothing q) (last b p k) j.0 i.0), i.1 ∙ j.1))
      (λ s.
      inr
      (lifted s i.1
      (λ j f. or_right (follow b p k j) (follow (b + atoms p) q k j || (last b p k && first (b + atoms p) q j)) (or_right (follow (b + atoms p) q k j) (last b p k && first (b + atoms p) q j) (and_both (last b p k) (first (b + atoms p) q j) i.0 f)))
      (λ j c. or_right (holds S b p j c) (holds S (b + atoms p) q j c))
      (λ j r c. inr c)))
      (starts (b + atoms p) q x v t.back))
      (λ s.
      inr
      (lifted s refl
      (λ j. or_left (follow b p k j) (follow (b + atoms p) q k j || (last b p k && first (b + atoms p) q j)))
      (λ j c. or_left (holds S b p j c) (holds S (b + atoms p) q j c))
      (λ j r c. inl (record { between = x; front = c; back = t.back }))))
      (goes_on b p k w x t.front)
  goes_on b (seq p q) k w v (inr c) =
      kept (goes_on (b + atoms p) q k w v c)
      (or_right (nothing q && last b p k) (last (b + atoms p) q k))
      (λ j f. or_right (follow b p k j) (follow (b + atoms p) q k j || (last b p k && first (b + atoms p) q j)) (or_left (follow (b + atoms p) q k j) (last b p k && first (b + atoms p) q j) f))
      (λ j c. or_right (holds S b p j c) (holds S (b + atoms p) q j c))
      (λ j r c. inr c)
  goes_on b (alt p q) k w v (inl c) =
      kept (goes_on b p k w v c)
      (or_left (last b p k) (last (b + atoms p) q k))
      (λ j. or_left (follow b p k j) (follow (b + atoms p) q k j))
      (λ j c. or_left (holds S b p j c) (holds S (b + atoms p) q j c))
      (λ j r c. inl c)
  goes_on b (alt p q) k w v (inr c) =
      kept (goes_on (b + atoms p) q k w v c)
      (or_right (last b p k) (last (b + atoms p) q k))
      (λ j. or_right (follow b p k j) (follow (b + atoms p) q k j))
      (λ j c. or_right (holds S b p j c) (holds S (b + atoms p) q j c))
      (λ j r c. inr c)

  -- after an atom that can end the expression nothing more need be taken
  pub last-cont : (b : ℕ) (e : Expr) (k : ℕ) (w : List ℕ) → last b e k ≡ true → Cont b e k w w
  unfolding last
  last-cont b (atom a) k w h = (eqb-true b k h, refl)
  last-cont b (group e) k w h = last-cont b e k w h
  last-cont b (star e) k w h = record { between = w; front = last-cont b e k w h; back = never }
  last-cont b (plus e) k w h = record { between = w; front = last-cont b e k w h; back = never }
  last-cont b (opt e) k w h = last-cont b e k w h
  last-cont b (seq p q) k w h =
      ⊎_elim
      (λ i. inl (record { between = w; front = last-cont b p k w (and-snd (nothing q) (last b p k) i); back = nothing-leaves q w (and-fst (nothing q) (last b p k) i) }))
      (λ i. inr (last-cont (b + atoms p) q k w i))
      (or_cases (nothing q && last b p k) (last (b + atoms p) q k) h)
  last-cont b (alt p q) k w h =
      ⊎_elim (λ i. inl (last-cont b p k w i)) (λ i. inr (last-cont (b + atoms p) q k w i)) (or_cases (last b p k) (last (b + atoms p) q k) h)

  -- an atom of one of two parts has its keys, and goes on, in that part
  module _ (b : ℕ) (p q : Expr) (k : ℕ) where
    holds-left : (c : ℕ) → Within b (atoms p) k → (holds S b p k c || holds S (b + atoms p) q k c) ≡ true → holds S b p k c ≡ true
    holds-left c i h =
        ⊎_elim (λ j. j) (λ j. absurd (apart b (atoms p) (atoms q) k i (holds-within S (b + atoms p) q k c j))) (or_cases (holds S b p k c) (holds S (b + atoms p) q k c) h)

    holds-right : (c : ℕ) → Within (b + atoms p) (atoms q) k → (holds S b p k c || holds S (b + atoms p) q k c) ≡ true → holds S (b + atoms p) q k c ≡ true
    holds-right c i h =
        ⊎_elim (λ j. absurd (apart b (atoms p) (atoms q) k (holds-within S b p k c j) i)) (λ j. j) (or_cases (holds S b p k c) (holds S (b + atoms p) q k c) h)

    cont-left : {A : Type 0} (w v : List ℕ) → Within b (atoms p) k → A ⊎ Cont (b + atoms p) q k w v → A
    cont-left w v i (inl c) = c
    cont-left w v i (inr c) = absurd (apart b (atoms p) (atoms q) k i (cont-within (b + atoms p) q k w v c))

    cont-right : {A B : Type 0} → (A → Within b (atoms p) k) → Within (b + atoms p) (atoms q) k → A ⊎ B → B
    cont-right f i (inl c) = absurd (apart b (atoms p) (atoms q) k (f c) i)
    cont-right f i (inr c) = c

  -- an atom that can come first takes one of its keys
  pub first-leaves : (b : ℕ) (e : Expr) (k c : ℕ) (w v : List ℕ) → first b e k ≡ true → holds S b e k c ≡ true → Cont b e k w v → Leaves S e (c ∷ w) v
  unfolding first holds
  first-leaves b (atom a) k c w v f h (s, t) = rw t (key (and-snd (eqb b k) (S a c) h))
  first-leaves b (group e) k c w v f h t = inside (first-leaves b e k c w v f h t)
  first-leaves b (star e) k c w v f h t = again (first-leaves b e k c w t.between f h t.front) t.back
  first-leaves b (plus e) k c w v f h t =
      let l = first-leaves b e k c w t.between f h t.front in
      ⊎_elim (λ i. once (rw i at l)) (λ m. more l m) (star-cases t.back)
  first-leaves b (opt e) k c w v f h t = present (first-leaves b e k c w v f h t)
  first-leaves b (seq p q) k c w v f h t =
      ⊎_elim
      (λ i.
      let n = first-within b p k i in
      let u = cont-left b p q k w v n t in
      after (first-leaves b p k c w u.between i (holds-left b p q k c n h) u.front) u.back)
      (λ i.
      let j = and-snd (nothing p) (first (b + atoms p) q k) i in
      let n = first-within (b + atoms p) q k j in
      after
      (nothing-leaves p (c ∷ w) (and-fst (nothing p) (first (b + atoms p) q k) i))
      (first-leaves (b + atoms p) q k c w v j (holds-right b p q k c n h) (cont-right b p q k (λ u. cont-within b p k w u.between u.front) n t)))
      (or_cases (first b p k) (nothing p && first (b + atoms p) q k) f)
  first-leaves b (alt p q) k c w v f h t =
      ⊎_elim
      (λ i. let n = first-within b p k i in left (first-leaves b p k c w v i (holds-left b p q k c n h) (cont-left b p q k w v n t)))
      (λ i.
      let n = first-within (b + atoms p) q k i in
      right (first-leaves (b + atoms p) q k c w v i (holds-right b p q k c n h) (cont-right b p q k (λ u. cont-within b p k w v u) n t)))
      (or_cases (first b p k) (first (b + atoms p) q k) f)

  -- an atom that can follow k takes one of its keys after k
  module _ (b : ℕ) (e : Expr) (k j c : ℕ) (w : List ℕ) (on : (v : List ℕ) → follow b e k j ≡ true → holds S b e j c ≡ true → Cont b e j w v → Cont b e k (c ∷ w) v) where
    follow-again : (v : List ℕ) → (follow b e k j || (last b e k && first b e j)) ≡ true → holds S b e j c ≡ true → Cont b (star e) j w v → Cont b (star e) k (c ∷ w) v
    follow-again v f h t =
        ⊎_elim
        (λ i. record { between = t.between; front = on t.between i h t.front; back = t.back })
        (λ i.
        record {
          between = c ∷ w;
          front = last-cont b e k (c ∷ w) (and-fst (last b e k) (first b e j) i);
          back = again (first-leaves b e j c w t.between (and-snd (last b e k) (first b e j) i) h t.front) t.back;
        })
        (or_cases (follow b e k j) (last b e k && first b e j) f)

  pub follow-cont : (b : ℕ) (e : Expr) (k j c : ℕ) (w v : List ℕ) → follow b e k j ≡ true → holds S b e j c ≡ true → Cont b e j w v → Cont b e k (c ∷ w) v
  unfolding follow holds
  follow-cont b (atom a) k j c w v f h t = absurd (false≢true f)
  follow-cont b (group e) k j c w v f h t = follow-cont b e k j c w v f h t
  follow-cont b (star e) k j c w v f h t = follow-again b e k j c w (λ v f h t. follow-cont b e k j c w v f h t) v f h t
  follow-cont b (plus e) k j c w v f h t = follow-again b e k j c w (λ v f h t. follow-cont b e k j c w v f h t) v f h t
  follow-cont b (opt e) k j c w v f h t = follow-cont b e k j c w v f h t
  follow-cont b (seq p q) k j c w v f h t =
      ⊎_elim
      (λ i.
      let n = follow-within b p k j i in
      let u = cont-left b p q j w v n t in
      inl (record { between = u.between; front = follow-cont b p k j c w u.between i (holds-left b p q j c n h) u.front; back = u.back }))
      (λ i.
      ⊎_elim
      (λ i. let n = follow-within (b + atoms p) q k j i in inr (follow-cont (b + atoms p) q k j c w v i (holds-right b p q j c n h) (second n)))
      (λ i.
      let f = and-snd (last b p k) (first (b + atoms p) q j) i in
      let n = first-within (b + atoms p) q j f in
      inl
      (record {
        between = c ∷ w;
        front = last-cont b p k (c ∷ w) (and-fst (last b p k) (first (b + atoms p) q j) i);
        back = first-leaves (b + atoms p) q j c w v f (holds-right b p q j c n h) (second n);
      }))
      (or_cases (follow (b + atoms p) q k j) (last b p k && first (b + atoms p) q j) i))
      (or_cases (follow b p k j) (follow (b + atoms p) q k j || (last b p k && first (b + atoms p) q j)) f)
    where
      second : Within (b + atoms p) (atoms q) j → Cont (b + atoms p) q j w v
      second n = cont-right b p q j (λ u. cont-within b p j w u.between u.front) n t
  follow-cont b (alt p q) k j c w v f h t =
      ⊎_elim
      (λ i. let n = follow-within b p k j i in inl (follow-cont b p k j c w v i (holds-left b p q j c n h) (cont-left b p q j w v n t)))
      (λ i.
      let n = follow-within (b + atoms p) q k j i in
      inr (follow-cont (b + atoms p) q k j c w v i (holds-right b p q j c n h) (cont-right b p q j (λ u. cont-within b p j w v u) n t)))
      (or_cases (follow b p k j) (follow (b + atoms p) q k j) f)
