-- Laws of how many numbers below n have X, and of a set's size.
use Prim.Native.Nat.{ℕ, zero, suc, ◌*◌, ◌/◌, ◌%◌, ◌^◌, ◌<◌, ◌≤◌}
use native.Mathlib.Omega.{arith}
use native.Mathlib.Nat.{pow-suc}
use mathlib.Core.Path.{◌≡◌, refl, sym, ◌∙◌}
use mathlib.Core.Bool.{Bool, cond}
use lib.Count.{ones, ones_step, ones-le}
use Rattle.stateset.specs.Set.{bit, word}
use Rattle.stateset.proofs.Sets.{bit_word, word-high, digit}
use Rattle.runs.specs.Counts.{count_below}
use Rattle.runs.proofs.CountLaws.{count-zero, count-ext, count-widen, count-first}

-- the size of a set's word is the count of its members below the width
pub count_word : (s : ℕ) (X : ℕ → Bool) → s ≤ 64 → count_below 64 (bit (word s X)) ≡ count_below s X
count_word s X h = count-widen s 64 (bit (word s X)) h (word-high s X) ∙ count-ext s (bit (word s X)) X (bit_word s X)

-- a number below a power has as many digits 1 as members
pub ones-members : (s w : ℕ) → w < 2 ^ s → ones w ≡ count_below s (bit w)
unfolding bit
ones-members zero w h = omega (arith, ones-le zero w h, count-zero (bit w))
ones-members (suc s) w h =
    let small : w < 2 ^ s * 2 = rw (pow-suc 2 s) at h in
    let low : w % 2 ≡ cond (bit w zero) 1 0 = digit (w % 2) (bit w zero) (omega arith) refl in
    ones_step w ∙ rw (low, ones-members s (w / 2) (omega arith)) (sym (count-first s (bit w)))
