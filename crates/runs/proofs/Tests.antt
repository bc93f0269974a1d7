-- Laws of tests.
use Prim.Native.Nat.{ℕ, ◌<◌, ◌≤◌}
use native.Mathlib.Omega.{arith}
use mathlib.Core.Path.{◌≡◌, refl, sym}
use mathlib.Core.Logic.{◌↔◌, ◌⊎◌, inl, inr, ⊎_elim}
use mathlib.Core.Bool.{Bool, true, false, ◌&&◌, ◌||◌, or-true, and-eq-true_iff}
use lib.Dec.{ltb, eqb}
use borrow.Author.Tests.{ltb-true, ltb-false, eqb-true, eq-eqb}

-- two constructors that are equal prove anything
pub clash : {A : Type 0} → ◌≡◌ {A = ℕ} 0 1 → A
clash z = absurd (no_less z)
  where
    no_less : ◌≡◌ {A = ℕ} 0 1 → ⊥
    no_less z = omega arith

-- and so does a test that passed and failed
pub torn : {A : Type 0} (t : Bool) → t ≡ true → t ≡ false → A
torn t p q = clash (cc)

-- a test passes or fails
pub by-test : {P : Type 0} (t : Bool) → (t ≡ true → P) → (t ≡ false → P) → P
by-test true f g = f refl
by-test false f g = g refl

-- one of two numbers is below the other, or not
pub either : {P : Type 0} (a b : ℕ) → (a < b → P) → (b ≤ a → P) → P
either a b f g = by-test (ltb a b) (λ e. f (ltb-true a b e)) (λ e. g (ltb-false a b e))

-- a true `||` has a true side
pub or_cases : (a b : Bool) → (a || b) ≡ true → (a ≡ true) ⊎ (b ≡ true)
or_cases true b h = inl refl
or_cases false b h = inr h

-- a true side makes a true `||`
pub or_left : (a b : Bool) → a ≡ true → (a || b) ≡ true
or_left a b h = rw h

pub or_right : (a b : Bool) → b ≡ true → (a || b) ≡ true
or_right a b h = rw h (or-true a)

-- both sides of a true `&&`
pub and_both : (a b : Bool) → a ≡ true → b ≡ true → (a && b) ≡ true
and_both a b g h = rw (g, h)

pub and-fst : (a b : Bool) → (a && b) ≡ true → a ≡ true
and-fst a b h = ((and-eq-true_iff a b).0 h).0

pub and-snd : (a b : Bool) → (a && b) ≡ true → b ≡ true
and-snd a b h = ((and-eq-true_iff a b).0 h).1

-- two tests that are true together are one
pub tests-ext : (a b : Bool) → (a ≡ true → b ≡ true) → (b ≡ true → a ≡ true) → a ≡ b
tests-ext true b f g = sym (f refl)
tests-ext false true f g = g refl
tests-ext false false f g = refl

-- a test of two numbers, either way round
pub eqb_swap : (a b : ℕ) → eqb a b ≡ eqb b a
eqb_swap a b = tests-ext (eqb a b) (eqb b a) (λ e. eq-eqb b a (sym (eqb-true a b e))) (λ e. eq-eqb a b (sym (eqb-true b a e)))

-- both parts of a test that passed
pub and_parts : (a b : Bool) → a && b ≡ true → (a ≡ true) × (b ≡ true)
and_parts a b h = (and-eq-true_iff a b).0 h

-- both parts of a choice that failed
pub neither : (a b : Bool) → a || b ≡ false → (a ≡ false) × (b ≡ false)
neither true b h = clash (cc)
neither false b h = (refl, h)

-- Tests that tell facts.

-- one of two facts holds exactly if one of their tests passes
pub or-iff : {P Q : Type 0} (a b : Bool) → (a ≡ true) ↔ P → (b ≡ true) ↔ Q → (a || b ≡ true) ↔ (P ⊎ Q)
or-iff a b f g = (
  λ h. ⊎_elim (λ i. inl (f.0 i)) (λ i. inr (g.0 i)) (or_cases a b h),
  λ h. ⊎_elim (λ p. or_left a b (f.1 p)) (λ q. or_right a b (g.1 q)) h,
)

-- and a test fails exactly if its fact does not hold
pub false-iff : {P : Type 0} (a : Bool) → (a ≡ true) ↔ P → (a ≡ false) ↔ (P → ⊥)
false-iff {P} a f = (λ e p. torn a (f.1 p) e, go a f.0)
  where
    go : (b : Bool) → (b ≡ true → P) → (P → ⊥) → b ≡ false
    go true g n = absurd (n (g refl))
    go false g n = refl
