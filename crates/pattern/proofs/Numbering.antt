-- Atoms have numbers from left to right: which of them each test can be true of.
use Prim.Native.Nat.{ℕ, ◌+◌, ◌≤◌, ◌<◌}
use native.Mathlib.Omega.{arith}
use mathlib.Core.Path.{◌≡◌}
use mathlib.Core.Logic.{◌⊎◌, inl, inr, ⊎_elim}
use mathlib.Core.Bool.{Bool, true, ◌&&◌, ◌||◌, false≢true}
use lib.Dec.{eqb}
use borrow.Author.Tests.{eqb-true}
use Rattle.brackets.specs.Sets.{Sets}
use Rattle.pattern.specs.States.{nothing, first, last, follow, holds}
use Rattle.runs.proofs.Tests.{or_cases, and-fst, and-snd}
use Rattle.pattern.specs.Form.{Expr, atom, group, star, plus, opt, seq, alt, atoms}

-- one of the n numbers from b on
pub record Within (b n k : ℕ) : Type 0 where
  pub low : b ≤ k
  pub high : k < b + n

-- no number is in both of two parts
pub apart : (b n m k : ℕ) → Within b n k → Within (b + n) m k → ⊥
apart b n m k g h = omega arith

-- a number of either of two parts is one of the whole
pub of_either : {b k : ℕ} (n m : ℕ) → Within b n k ⊎ Within (b + n) m k → Within b (n + m) k
of_either n m (inl h) = record { low = h.low; high = omega arith }
of_either n m (inr h) = record { low = omega arith; high = omega arith }

-- so is one of which a test of either part is true
of-tests : {b k : ℕ} (n m : ℕ) (x y : Bool) → (x || y) ≡ true → (x ≡ true → Within b n k) → (y ≡ true → Within (b + n) m k) → Within b (n + m) k
of-tests n m x y h f g = of_either n m (⊎_elim (λ i. inl (f i)) (λ i. inr (g i)) (or_cases x y h))

-- the numbers of which each test can be true
pub one-within : {b k : ℕ} → b ≡ k → Within b 1 k
one-within s = record { low = omega arith; high = omega arith }

pub first-within : (b : ℕ) (e : Expr) (k : ℕ) → first b e k ≡ true → Within b (atoms e) k
unfolding first atoms
first-within b (atom a) k h = one-within (eqb-true b k h)
first-within b (group e) k h = first-within b e k h
first-within b (star e) k h = first-within b e k h
first-within b (plus e) k h = first-within b e k h
first-within b (opt e) k h = first-within b e k h
first-within b (seq p q) k h =
    of-tests (atoms p) (atoms q) (first b p k) (nothing p && first (b + atoms p) q k) h
    (λ i. first-within b p k i)
    (λ i. first-within (b + atoms p) q k (and-snd (nothing p) (first (b + atoms p) q k) i))
first-within b (alt p q) k h =
    of-tests (atoms p) (atoms q) (first b p k) (first (b + atoms p) q k) h (λ i. first-within b p k i) (λ i. first-within (b + atoms p) q k i)

pub holds-within : (S : Sets) (b : ℕ) (e : Expr) (k c : ℕ) → holds S b e k c ≡ true → Within b (atoms e) k
unfolding holds atoms
holds-within S b (atom a) k c h = one-within (eqb-true b k (and-fst (eqb b k) (S a c) h))
holds-within S b (group e) k c h = holds-within S b e k c h
holds-within S b (star e) k c h = holds-within S b e k c h
holds-within S b (plus e) k c h = holds-within S b e k c h
holds-within S b (opt e) k c h = holds-within S b e k c h
holds-within S b (seq p q) k c h =
    of-tests (atoms p) (atoms q) (holds S b p k c) (holds S (b + atoms p) q k c) h (λ i. holds-within S b p k c i) (λ i. holds-within S (b + atoms p) q k c i)
holds-within S b (alt p q) k c h =
    of-tests (atoms p) (atoms q) (holds S b p k c) (holds S (b + atoms p) q k c) h (λ i. holds-within S b p k c i) (λ i. holds-within S (b + atoms p) q k c i)

-- of a repeated expression
again-within : (b : ℕ) (e : Expr) (k j : ℕ) → (follow b e k j ≡ true → Within b (atoms e) j) → (follow b e k j || (last b e k && first b e j)) ≡ true → Within b (atoms e) j
again-within b e k j f h =
    ⊎_elim f (λ i. first-within b e j (and-snd (last b e k) (first b e j) i)) (or_cases (follow b e k j) (last b e k && first b e j) h)

pub follow-within : (b : ℕ) (e : Expr) (k j : ℕ) → follow b e k j ≡ true → Within b (atoms e) j
unfolding follow atoms
follow-within b (atom a) k j h = absurd (false≢true h)
follow-within b (group e) k j h = follow-within b e k j h
follow-within b (star e) k j h = again-within b e k j (λ i. follow-within b e k j i) h
follow-within b (plus e) k j h = again-within b e k j (λ i. follow-within b e k j i) h
follow-within b (opt e) k j h = follow-within b e k j h
follow-within b (seq p q) k j h =
    of-tests (atoms p) (atoms q) (follow b p k j) (follow (b + atoms p) q k j || (last b p k && first (b + atoms p) q j)) h
    (λ i. follow-within b p k j i)
    (λ i.
    ⊎_elim
    (λ i. follow-within (b + atoms p) q k j i)
    (λ i. first-within (b + atoms p) q j (and-snd (last b p k) (first (b + atoms p) q j) i))
    (or_cases (follow (b + atoms p) q k j) (last b p k && first (b + atoms p) q j) i))
follow-within b (alt p q) k j h =
    of-tests (atoms p) (atoms q) (follow b p k j) (follow (b + atoms p) q k j) h (λ i. follow-within b p k j i) (λ i. follow-within (b + atoms p) q k j i)
