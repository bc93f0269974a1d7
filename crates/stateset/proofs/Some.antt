-- Laws of tests, and of `some number below n`.
use Prim.Native.Nat.{ℕ, zero, suc, ◌<◌, ◌≤◌}
use native.Mathlib.Omega.{arith}
use native.Mathlib.Decide.{le_ind}
use mathlib.Core.Path.{◌≡◌, refl, sym, ap, ◌∙◌}
use mathlib.Core.Logic.{◌↔◌, ⊎_elim}
use mathlib.Core.Bool.{Bool, true, false, ◌&&◌, ◌||◌, and_comm, or-false, false≢true}
use lib.Dec.{ltb, eqb}
use borrow.Author.Tests.{ltb-true, ltb-false, eqb-true, eq-eqb}
use Rattle.stateset.specs.Set.{any_below}
use Rattle.runs.proofs.Tests.{and_both, and-fst, and-snd, or_cases, or_left, torn, or_right, tests-ext, eqb_swap}

-- a number below n that has X
pub record Witness (n : ℕ) (X : ℕ → Bool) : Type 0 where
  pub which : ℕ
  pub below : which < n
  pub has : X which ≡ true

pub any_some : (n k : ℕ) (X : ℕ → Bool) → k < n → X k ≡ true → any_below n X ≡ true
unfolding any_below
any_some zero k X h e = absurd (omega arith)
any_some (suc n) k X h e = go (λ l. any_some n k X l e) (ltb k n) refl
  where
    go : (k < n → any_below n X ≡ true) → (b : Bool) → ltb k n ≡ b → (any_below n X || X n) ≡ true
    go f true i = or_left (any_below n X) (X n) (f (ltb-true k n i))
    go f false i = let s : n ≡ k = omega (arith, ltb-false k n i) in or_right (any_below n X) (X n) (rw s e)

pub any-witness : (n : ℕ) (X : ℕ → Bool) → any_below n X ≡ true → Witness n X
unfolding any_below
any-witness zero X h = absurd (false≢true h)
any-witness (suc n) X h =
    ⊎_elim
    (λ i. let w = any-witness n X i in record { which = w.which; below = omega arith; has = w.has })
    (λ i. record { which = n; below = omega arith; has = i })
    (or_cases (any_below n X) (X n) h)

pub any-iff : (n : ℕ) (X : ℕ → Bool) → (any_below n X ≡ true) ↔ Witness n X
any-iff n X = (any-witness n X, λ w. any_some n w.which X w.below w.has)

pub any-ext : (n : ℕ) (X Y : ℕ → Bool) → ((k : ℕ) → k < n → X k ≡ Y k) → any_below n X ≡ any_below n Y
unfolding any_below
any-ext zero X Y e = refl
any-ext (suc n) X Y e = rw (any-ext n X Y (λ k h. e k (omega arith)), e n (omega arith)) refl

-- what no number has, none below n has
pub any_none : (n : ℕ) (X : ℕ → Bool) → ((k : ℕ) → X k ≡ false) → any_below n X ≡ false
unfolding any_below
any_none zero X e = refl
any_none (suc n) X e = rw (any_none n X e, e n)

-- where none below n has X, each below n lacks it
pub any-lacks : (n k : ℕ) (X : ℕ → Bool) → any_below n X ≡ false → k < n → X k ≡ false
any-lacks n k X e h = go (X k) refl
  where
    go : (b : Bool) → X k ≡ b → X k ≡ false
    go true g = torn (any_below n X) (any_some n k X h g) e
    go false g = g

-- where X is Y and t besides, some number of X has R exactly if t has it or some number of Y has
pub any-insert : (n t : ℕ) (X Y R : ℕ → Bool) → t < n → ((k : ℕ) → X k ≡ (eqb t k || Y k))
    → any_below n (λ k. X k && R k) ≡ (R t || any_below n (λ k. Y k && R k))
any-insert n t X Y R h e = tests-ext in_x (R t || in_y) out into
  where
    in_x : Bool
    in_x = any_below n (λ k. X k && R k)

    in_y : Bool
    in_y = any_below n (λ k. Y k && R k)

    some : (k : ℕ) → k < n → (eqb t k || Y k) ≡ true → R k ≡ true → in_x ≡ true
    some k l i r = any_some n k (λ k. X k && R k) l (and_both (X k) (R k) (e k ∙ i) r)

    into : (R t || in_y) ≡ true → in_x ≡ true
    into a =
        ⊎_elim
        (λ r. some t h (or_left (eqb t t) (Y t) (eq-eqb t t refl)) r)
        (λ i.
        let w = any-witness n (λ k. Y k && R k) i in
        let k = w.which in
        some k w.below (or_right (eqb t k) (Y k) (and-fst (Y k) (R k) w.has)) (and-snd (Y k) (R k) w.has))
        (or_cases (R t) in_y a)

    out : in_x ≡ true → (R t || in_y) ≡ true
    out a =
        let w = any-witness n (λ k. X k && R k) a in
        let k = w.which in
        let r : R k ≡ true = and-snd (X k) (R k) w.has in
        ⊎_elim
        (λ i. or_left (R t) in_y (rw (eqb-true t k i) r))
        (λ i. or_right (R t) in_y (any_some n k (λ k. Y k && R k) w.below (and_both (Y k) (R k) i r)))
        (or_cases (eqb t k) (Y k) (sym (e k) ∙ and-fst (X k) (R k) w.has))

-- numbers from n on that do not have X do not matter
pub any-widen : (n m : ℕ) (X : ℕ → Bool) → n ≤ m → ((k : ℕ) → n ≤ k → X k ≡ false) → any_below m X ≡ any_below n X
unfolding any_below
any-widen n m X h e = le_ind (λ (m : ℕ). any_below m X ≡ any_below n X) refl (λ m l i. rw (i, e m l) (or-false (any_below n X))) m h

module _ (n : ℕ) (X : ℕ → Bool) (Y : ℕ → ℕ → Bool) (Z : ℕ → Bool) where
  -- one may go through some state to another and on from there, or to some state from which one may go on
  pub any-through : any_below n (λ r. X r && any_below n (λ p. Y r p && Z p)) ≡ any_below n (λ p. any_below n (λ r. X r && Y r p) && Z p)
  any-through = tests-ext _ _ forth back
    where
      forth : any_below n (λ r. X r && any_below n (λ p. Y r p && Z p)) ≡ true → any_below n (λ p. any_below n (λ r. X r && Y r p) && Z p) ≡ true
      forth h =
          let u = any-witness n (λ r. X r && any_below n (λ p. Y r p && Z p)) h in
          let r = u.which in
          let v = any-witness n (λ p. Y r p && Z p) (and-snd (X r) (any_below n (λ p. Y r p && Z p)) u.has) in
          let p = v.which in
          any_some n p (λ p. any_below n (λ r. X r && Y r p) && Z p) v.below
          (and_both (any_below n (λ r. X r && Y r p)) (Z p)
          (any_some n r (λ r. X r && Y r p) u.below (and_both (X r) (Y r p) (and-fst (X r) (any_below n (λ p. Y r p && Z p)) u.has) (and-fst (Y r p) (Z p) v.has)))
          (and-snd (Y r p) (Z p) v.has))

      back : any_below n (λ p. any_below n (λ r. X r && Y r p) && Z p) ≡ true → any_below n (λ r. X r && any_below n (λ p. Y r p && Z p)) ≡ true
      back h =
          let u = any-witness n (λ p. any_below n (λ r. X r && Y r p) && Z p) h in
          let p = u.which in
          let v = any-witness n (λ r. X r && Y r p) (and-fst (any_below n (λ r. X r && Y r p)) (Z p) u.has) in
          let r = v.which in
          any_some n r (λ r. X r && any_below n (λ p. Y r p && Z p)) v.below
          (and_both (X r) (any_below n (λ p. Y r p && Z p)) (and-fst (X r) (Y r p) v.has)
          (any_some n p (λ p. Y r p && Z p) u.below (and_both (Y r p) (Z p) (and-snd (X r) (Y r p) v.has) (and-snd (any_below n (λ r. X r && Y r p)) (Z p) u.has))))

-- a test of one state
pub any_at : (n q : ℕ) (Z : ℕ → Bool) → q < n → any_below n (λ p. eqb q p && Z p) ≡ Z q
any_at n q Z h = tests-ext _ _ forth (λ z. any_some n q (λ p. eqb q p && Z p) h (and_both (eqb q q) (Z q) (eq-eqb q q refl) z))
  where
    forth : any_below n (λ p. eqb q p && Z p) ≡ true → Z q ≡ true
    forth h =
        let w = any-witness n (λ p. eqb q p && Z p) h in
        let p = w.which in
        rw (eqb-true q p (and-fst (eqb q p) (Z p) w.has)) (and-snd (eqb q p) (Z p) w.has)

-- and the other way round
pub any-to : (n q : ℕ) (Z : ℕ → Bool) → q < n → any_below n (λ p. Z p && eqb p q) ≡ Z q
any-to n q Z h = any-ext n (λ p. Z p && eqb p q) (λ p. eqb q p && Z p) (λ p l. rw (eqb_swap p q) (and_comm (Z p) (eqb q p))) ∙ any_at n q Z h

-- a test that does not speak of the number
pub any-and : (n : ℕ) (X : ℕ → Bool) (y : Bool) → (any_below n X && y) ≡ any_below n (λ k. X k && y)
unfolding any_below
any-and zero X y = refl
any-and (suc n) X y = spread (any_below n X) (X n) y ∙ ap (λ (b : Bool). b || (X n && y)) (any-and n X y)
  where
    spread : (a b y : Bool) → ((a || b) && y) ≡ ((a && y) || (b && y))
    spread a b y = grind arith

-- one of two tests
pub any-or : (n : ℕ) (X Y : ℕ → Bool) → any_below n (λ k. X k || Y k) ≡ (any_below n X || any_below n Y)
unfolding any_below
any-or zero X Y = refl
any-or (suc n) X Y = ap (λ (b : Bool). b || (X n || Y n)) (any-or n X Y) ∙ four (any_below n X) (any_below n Y) (X n) (Y n)
  where
    four : (a b c d : Bool) → ((a || b) || (c || d)) ≡ ((a || c) || (b || d))
    four a b c d = grind arith
