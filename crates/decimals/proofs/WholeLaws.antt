-- Whole numbers by their signs, as a local holds them: their sizes.
use Prim.Native.Nat.{ℕ, ◌^◌, ◌<◌}
use native.Mathlib.Omega.{arith}
use mathlib.Core.Path.{◌≡◌}
use mathlib.Core.Bool.{true, false}
use lib.IntN.{ℤ, pos, negsuc}
use lib.Signed.{lt_z}
use mir.Syntax.{w64}
use mir.Val.{SFits, to_z, of_z}

-- A local holds a whole number's bits, and this is read back from them.
abbrev pub read : ℤ → ℤ
read z = to_z w64 (of_z w64 z)

-- by the test whether it is negative
pub when-negative : (P : ℤ → Type 0) → ((n : ℕ) → n < 2 ^ 63 → P (negsuc n)) → (z : ℤ) → SFits w64 z → lt_z (read z) (pos 0) ≡ true → P z
when-negative P p z f h = grind arith

pub when-other : (P : ℤ → Type 0) → ((n : ℕ) → n < 2 ^ 63 → P (pos n)) → (z : ℤ) → SFits w64 z → lt_z (read z) (pos 0) ≡ false → P z
when-other P p z f h = grind arith
