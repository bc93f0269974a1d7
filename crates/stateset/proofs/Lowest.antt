-- Laws of a set's lowest member t = count_trailing_zeros k y, over any width k, and of the set without it, `y & (y - 1)`.
use Prim.Native.Nat.{ℕ, zero, suc, ◌-◌, ◌*◌, ◌/◌, ◌%◌, ◌^◌, ◌<◌, ◌≤◌}
use native.Mathlib.Omega.{arith}
use native.Mathlib.Nat.{pow-suc}
use mathlib.Core.Path.{◌≡◌, refl, ◌∙◌}
use mathlib.Core.Bool.{◌||◌}
use lib.Dec.{eqb, eqb-zero-suc, eqb-suc-zero, eqb-suc-suc}
use lib.Bits.{bit_and, and_step, and_self, and_le_r}
use lib.Count.{count_trailing_zeros, under}
use Rattle.stateset.specs.Set.{bit}

-- the lowest member of a set of numbers below s that is not empty is below s
pub lowest-lt : (k s y : ℕ) → s ≤ k → 0 < y → y < 2 ^ s → count_trailing_zeros k y < s
unfolding count_trailing_zeros
lowest-lt k zero y l g h = absurd (omega arith)
lowest-lt zero (suc s) y l g h = absurd (omega arith)
lowest-lt (suc k) (suc s) y l g h =
    let small : y < 2 ^ s * 2 = rw (pow-suc 2 s) at h in
    go (y % 2) refl (λ e. lowest-lt k s (y / 2) (omega arith) (omega arith) (omega arith))
  where
    go : (d : ℕ) → y % 2 ≡ d → (y % 2 ≡ 0 → count_trailing_zeros k (y / 2) < s) → under d (count_trailing_zeros k (y / 2)) < suc s
    go zero e f = let t = f e in omega arith
    go (suc d) e f = omega arith

-- a set that has 0, without its lowest member
odd-less : (y : ℕ) → y % 2 ≡ 1 → bit_and y (y - 1) ≡ y / 2 * 2
odd-less y e =
    let a : (y - 1) / 2 ≡ y / 2 = omega arith in
    let b : (y - 1) % 2 ≡ 0 = omega arith in
    and_step y (y - 1) ∙ rw (a, b, e, and_self) (omega arith)

-- a set that does not
even-less : (y : ℕ) → 0 < y → y % 2 ≡ 0 → bit_and y (y - 1) ≡ bit_and (y / 2) (y / 2 - 1) * 2
even-less y g e =
    let a : (y - 1) / 2 ≡ y / 2 - 1 = omega arith in
    let b : (y - 1) % 2 ≡ 1 = omega arith in
    and_step y (y - 1) ∙ rw (a, b, e) (omega arith)

-- the members of a set that is not empty are its lowest one and those of `y & (y - 1)`
pub lowest-bit : (k y : ℕ) → 0 < y → y < 2 ^ k → (p : ℕ) → bit y p ≡ (eqb (count_trailing_zeros k y) p || bit (bit_and y (y - 1)) p)
unfolding count_trailing_zeros bit
lowest-bit zero y g h p = absurd (omega arith)
lowest-bit (suc k) y g h p =
    let small : y < 2 ^ k * 2 = rw (pow-suc 2 k) at h in
    go (y % 2) p refl (omega arith) (λ e q. lowest-bit k (y / 2) (omega arith) (omega arith) q)
  where
    low : {n : ℕ} (m : ℕ) → n ≡ m * 2 → n % 2 ≡ 0
    low m e = omega arith

    up : {n : ℕ} (m : ℕ) → n ≡ m * 2 → n / 2 ≡ m
    up m e = omega arith

    go : (d q : ℕ) → y % 2 ≡ d → d < 2
        → (y % 2 ≡ 0 → (q : ℕ) → bit (y / 2) q ≡ (eqb (count_trailing_zeros k (y / 2)) q || bit (bit_and (y / 2) (y / 2 - 1)) q))
        → bit y q ≡ (eqb (under d (count_trailing_zeros k (y / 2))) q || bit (bit_and y (y - 1)) q)
    go zero zero e l f = rw (e, low (bit_and (y / 2) (y / 2 - 1)) (even-less y g e), eqb-suc-zero)
    go zero (suc q) e l f = rw (up (bit_and (y / 2) (y / 2 - 1)) (even-less y g e), eqb-suc-suc) (f e q)
    go (suc zero) zero e l f = rw e
    go (suc zero) (suc q) e l f = rw (up (y / 2) (odd-less y e), eqb-zero-suc)
    go (suc (suc d)) q e l f = absurd (omega arith)

-- a set without its lowest member is a smaller number
pub less-lt : (y : ℕ) → 0 < y → bit_and y (y - 1) < y
less-lt y g = omega (arith, and_le_r y (y - 1))
