-- Some branch of a pattern, and the numbers of its atoms.
use Prim.Native.Nat.{ℕ, ◌+◌}
use native.Mathlib.Omega.{arith}
use mathlib.Core.Path.{◌≡◌, refl}
use mathlib.Core.Logic.{◌⊎◌, inl, inr, ⊎_elim}
use mathlib.Core.Bool.{Bool, true, false≢true}
use mathlib.Core.List.{List, [], ◌∷◌}
use Rattle.pattern.specs.States.{some_branch}
use Rattle.pattern.proofs.Numbering.{Within, apart}
use Rattle.pattern.proofs.Continuations.{Step, lifted}
use Rattle.runs.proofs.Tests.{or_cases, or_left, or_right}
use Rattle.pattern.specs.Form.{Branch, Pattern, atoms_in, atom_count}

-- some branch, whose atoms have the numbers from b on, has P
abbrev pub Some : (ℕ → Branch → Type 0) → ℕ → Pattern → Type 0
Some P b [] = ⊥
Some P b (r ∷ rs) = P b r ⊎ Some P (b + atoms_in r.pieces) rs

pub some-true : (P : ℕ → Branch → Bool) (b : ℕ) (t : Pattern) → some_branch P b t ≡ true → Some (λ d r. P d r ≡ true) b t
unfolding some_branch
some-true P b [] h = absurd (false≢true h)
some-true P b (r ∷ rs) h = ⊎_elim (λ i. inl i) (λ i. inr (some-true P (b + atoms_in r.pieces) rs i)) (or_cases (P b r) (some_branch P (b + atoms_in r.pieces) rs) h)

pub true-some : (P : ℕ → Branch → Bool) (b : ℕ) (t : Pattern) → Some (λ d r. P d r ≡ true) b t → some_branch P b t ≡ true
unfolding some_branch
true-some P b (r ∷ rs) (inl i) = or_left (P b r) (some_branch P (b + atoms_in r.pieces) rs) i
true-some P b (r ∷ rs) (inr i) = or_right (P b r) (some_branch P (b + atoms_in r.pieces) rs) (true-some P (b + atoms_in r.pieces) rs i)
true-some P b [] x' = elim x' [ ]

pub some-map : (P Q : ℕ → Branch → Type 0) → ((b : ℕ) (r : Branch) → P b r → Q b r) → (b : ℕ) (t : Pattern) → Some P b t → Some Q b t
some-map P Q f b (r ∷ rs) (inl p) = inl (f b r p)
some-map P Q f b (r ∷ rs) (inr p) = inr (some-map P Q f (b + atoms_in r.pieces) rs p)
some-map P Q f b [] x' = elim x' [ ]

-- P tells a branch by the number of one of its atoms
abbrev pub Tells : ℕ → (ℕ → Branch → Type 0) → Type 0
Tells k P = (b : ℕ) (r : Branch) → P b r → Within b (atoms_in r.pieces) k

pub some-within : (k : ℕ) (P : ℕ → Branch → Type 0) → Tells k P → (b : ℕ) (t : Pattern) → Some P b t → Within b (atom_count t) k
unfolding atom_count
some-within k P f b (r ∷ rs) (inl p) = let w = f b r p in record { low = w.low; high = omega arith }
some-within k P f b (r ∷ rs) (inr p) = let w = some-within k P f (b + atoms_in r.pieces) rs p in record { low = omega arith; high = omega arith }
some-within k P f b [] x' = elim x' [ ]

-- what tells the same number is of one branch
pub some-meet : (k : ℕ) (P Q : ℕ → Branch → Type 0) → Tells k P → Tells k Q → (b : ℕ) (t : Pattern) → Some P b t → Some Q b t → Some (λ d r. P d r × Q d r) b t
some-meet k P Q f g b (r ∷ rs) (inl p) (inl q) = inl (p, q)
some-meet k P Q f g b (r ∷ rs) (inl p) (inr q) = absurd (apart b (atoms_in r.pieces) (atom_count rs) k (f b r p) (some-within k Q g (b + atoms_in r.pieces) rs q))
some-meet k P Q f g b (r ∷ rs) (inr p) (inl q) = absurd (apart b (atoms_in r.pieces) (atom_count rs) k (g b r q) (some-within k P f (b + atoms_in r.pieces) rs p))
some-meet k P Q f g b (r ∷ rs) (inr p) (inr q) = inr (some-meet k P Q f g (b + atoms_in r.pieces) rs p q)
some-meet k P Q f g b [] x'' _ = elim x'' [ ]

-- a step of some branch is one of the pattern, and the other way round
module _ (m : ℕ → Branch → ℕ → Bool) (H : ℕ → Branch → ℕ → ℕ → Bool) (G : ℕ → Branch → ℕ → List ℕ → Type 0) where
  -- some branch takes the step, or the pattern does
  abbrev pub SomeSteps : ℕ → Pattern → List ℕ → Type 0
  SomeSteps b t w = Some (λ d r. Step (m d r) (H d r) (G d r) w) b t

  abbrev pub PatternSteps : ℕ → Pattern → List ℕ → Type 0
  PatternSteps b t w = Step (λ k. some_branch (λ d r. m d r k) b t) (λ k c. some_branch (λ d r. H d r k c) b t) (λ k v. Some (λ d r. G d r k v) b t) w

  pub some-step : (b : ℕ) (t : Pattern) (w : List ℕ) → SomeSteps b t w → PatternSteps b t w
  unfolding some_branch
  some-step b (r ∷ rs) w (inl s) =
      lifted s refl
      (λ k. or_left (m b r k) (some_branch (λ d r. m d r k) (b + atoms_in r.pieces) rs))
      (λ k c. or_left (H b r k c) (some_branch (λ d r. H d r k c) (b + atoms_in r.pieces) rs))
      (λ k v g. inl g)
  some-step b (r ∷ rs) w (inr s) =
      lifted (some-step (b + atoms_in r.pieces) rs w s) refl
      (λ k. or_right (m b r k) (some_branch (λ d r. m d r k) (b + atoms_in r.pieces) rs))
      (λ k c. or_right (H b r k c) (some_branch (λ d r. H d r k c) (b + atoms_in r.pieces) rs))
      (λ k v g. inr g)
  some-step b [] w x' = elim x' [ ]

  module _ (tells-m : (k : ℕ) → Tells k (λ d r. m d r k ≡ true)) (tells-H : (k c : ℕ) → Tells k (λ d r. H d r k c ≡ true)) (tells-G : (k : ℕ) (v : List ℕ) → Tells k (λ d r. G d r k v)) where
    pub step-some : (b : ℕ) (t : Pattern) (w : List ℕ) → PatternSteps b t w → SomeSteps b t w
    step-some b t w s =
        let k = s.which in
        let c = s.taken in
        let v = s.rest in
        let two = some-meet k (λ d r. m d r k ≡ true) (λ d r. H d r k c ≡ true) (tells-m k) (tells-H k c) b t (some-true (λ d r. m d r k) b t s.comes) (some-true (λ d r. H d r k c) b t s.holding) in
        let three = some-meet k (λ d r. (m d r k ≡ true) × (H d r k c ≡ true)) (λ d r. G d r k v) (λ d r p. tells-m k d r p.0) (tells-G k v) b t two s.goes in
        some-map
        (λ d r. ((m d r k ≡ true) × (H d r k c ≡ true)) × G d r k v)
        (λ d r. Step (m d r) (H d r) (G d r) w)
        (λ d r p. record { taken = c; rest = v; whole = s.whole; which = k; comes = p.0.0; holding = p.0.1; goes = p.1 })
        b
        t
        three
