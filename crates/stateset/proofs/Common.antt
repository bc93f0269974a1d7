-- Laws of whether two sets have a member in common.
use Prim.Native.Nat.{ℕ, ◌^◌, ◌<◌, ◌≤◌}
use mathlib.Core.Path.{◌≡◌, refl, sym, ◌∙◌}
use mathlib.Core.Bool.{Bool, true, false, not, ◌&&◌, and-false}
use lib.Dec.{eqb}
use lib.Bits.{bit_and, and_lt}
use borrow.Author.Tests.{eqb-true, eq-eqb}
use Rattle.stateset.specs.Set.{bit, word, any_below, common}
use Rattle.stateset.proofs.Sets.{bit-zero, bit-and, bit_word, word-high, word-unique, word_none}
use Rattle.stateset.proofs.Some.{any-ext, any_none, any-lacks, any-widen}
use Rattle.runs.proofs.Tests.{torn}

-- a set and a word have a member in common exactly if some number below the width is in both
pub common-word : (s x : ℕ) (X : ℕ → Bool) → s ≤ 64 → common 64 x (word s X) ≡ any_below s (λ p. bit x p && X p)
common-word s x X h =
    any-widen s 64 (λ p. bit x p && bit (word s X) p) h (λ p l. rw (word-high s X p l) (and-false (bit x p)))
    ∙ any-ext s (λ p. bit x p && bit (word s X) p) (λ p. bit x p && X p) (λ p l. rw (bit_word s X p l) refl)

-- and so two words
pub common-words : (s : ℕ) (X Y : ℕ → Bool) → s ≤ 64 → common 64 (word s X) (word s Y) ≡ any_below s (λ p. X p && Y p)
common-words s X Y h = common-word s (word s X) Y h ∙ any-ext s (λ p. bit (word s X) p && Y p) (λ p. X p && Y p) (λ p l. rw (bit_word s X p l) refl)

-- a number below a power has a member exactly if it is not 0
pub some-member : (s w : ℕ) → w < 2 ^ s → not (eqb w 0) ≡ any_below s (bit w)
some-member s w h = go (any_below s (bit w)) refl (eqb w 0) refl
  where
    go : (a : Bool) → any_below s (bit w) ≡ a → (z : Bool) → eqb w 0 ≡ z → not z ≡ a
    go true i true e = torn (any_below s (bit w)) i (rw (eqb-true w 0 e) (any_none s (bit 0) bit-zero))
    go true i false e = refl
    go false i true e = refl
    go false i false e = torn (eqb w 0) (eq-eqb w 0 (word-unique s w (λ p. false) h (λ p l. any-lacks s p (bit w) i l) ∙ sym (word_none s))) e

-- two sets have a member in common exactly if their intersection is not empty
pub common-and : (s a b : ℕ) → a < 2 ^ s → b < 2 ^ s → not (eqb (bit_and a b) 0) ≡ any_below s (λ p. bit a p && bit b p)
common-and s a b g h =
    some-member s (bit_and a b) (and_lt s a b g h) ∙ any-ext s (bit (bit_and a b)) (λ p. bit a p && bit b p) (λ p l. bit-and a b p)
