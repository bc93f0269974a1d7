-- A loop that copies: what it has done before each turn.
use Prim.Native.Nat.{ℕ, ◌+◌, ◌<◌, ◌≤◌}
use native.Mathlib.Omega.{arith}
use native.Mathlib.Numerals.{add-one}
use mathlib.Core.Path.{◌≡◌, refl, ◌∙◌}
use mathlib.Core.List.{List}
use lib.ListN.{length, get_or, set, length-set}
use lib.Seq.{paste, paste-zero, paste-suc}

-- the first i of n elements of a source stand over a list from a place on
pub record Copying (old : List ℕ) (at : ℕ) (source : List ℕ) (n : ℕ) (new : List ℕ) (i : ℕ) : Type 0 where
  pub inside : i ≤ n
  pub long : length new ≡ length old
  pub copied : new ≡ paste old at source i

module _ {old : List ℕ} {at : ℕ} {source : List ℕ} {n : ℕ} where
  pub copying-none : Copying old at source n old 0
  copying-none = record { inside = omega arith; long = refl; copied = paste-zero old at source }

  module _ {new : List ℕ} {i : ℕ} (c : Copying old at source n new i) where
    pub copying-more : i < n → at + n ≤ length old → n ≤ length source → Copying old at source n (set new (at + i) (get_or source i 0)) (i + 1)
    copying-more h room there =
        record {
          inside = omega arith;
          long = length-set new (at + i) (get_or source i 0) ∙ c.long;
          copied = rw (c.copied, add-one i) (paste-suc old at source i 0 (omega arith) (omega arith));
        }

    pub copying-done : n ≤ i → new ≡ paste old at source n
    copying-done h = let e : i ≡ n = omega (arith, c.inside) in rw e at c.copied
