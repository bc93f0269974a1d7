-- Laws of the image of a set: the union of its members' rows.
use Prim.Native.Nat.{ℕ, ◌-◌, ◌%◌, ◌^◌, ◌<◌, ◌≤◌}
use native.Mathlib.Omega.{arith}
use mathlib.Core.Path.{◌≡◌, sym, ◌∙◌}
use mathlib.Core.List.{List}
use mathlib.Core.Bool.{Bool, false, ◌&&◌, ◌||◌}
use lib.Dec.{eqb}
use lib.ListN.{length, get_or}
use lib.Bits.{bit_and, bit_or, or_lt, or_zero_r, and_mask}
use lib.Count.{count_trailing_zeros}
use Rattle.stateset.specs.Set.{bit, any_below, image_of}
use Rattle.stateset.proofs.Sets.{bit-zero, bit-or, bit_word, word_lt, word-unique, word-ext, word_none, or_assoc, bit-mod}
use Rattle.stateset.proofs.Some.{any-ext, any_none, any-insert}
use Rattle.stateset.proofs.Lowest.{lowest-bit}

-- some member of x has p in its row
abbrev reached : List ℕ → ℕ → ℕ → Bool
reached rows x p = any_below (length rows) (λ q. bit x q && bit (get_or rows q 0) p)

-- p is in the image exactly if some member's row has it
pub bit-image : (rows : List ℕ) (x p : ℕ) → p < 64 → bit (image_of rows x) p ≡ any_below (length rows) (λ q. bit x q && bit (get_or rows q 0) p)
unfolding image_of
bit-image rows x p h = bit_word 64 (reached rows x) p h

-- an image is a set of numbers below 64
pub image-lt : (rows : List ℕ) (x : ℕ) → image_of rows x < 2 ^ 64
unfolding image_of
image-lt rows x = word_lt 64 (reached rows x)

-- the empty set's image is empty
pub image-zero : (rows : List ℕ) → image_of rows 0 ≡ 0
unfolding image_of
image-zero rows =
    word-ext 64 (reached rows 0) (λ p. false) (λ p h. any_none (length rows) (λ q. bit 0 q && bit (get_or rows q 0) p) (λ q. rw (bit-zero q)))
    ∙ sym (word_none 64)

-- sets that have the same members among those with a row have one image
pub image-ext : (rows : List ℕ) (x y : ℕ) → ((q : ℕ) → q < length rows → bit x q ≡ bit y q) → image_of rows x ≡ image_of rows y
unfolding image_of
image-ext rows x y e =
    word-ext 64 (reached rows x) (reached rows y)
    (λ p h. any-ext (length rows) (λ q. bit x q && bit (get_or rows q 0) p) (λ q. bit y q && bit (get_or rows q 0) p) (λ q l. rw (e q l)))

-- a mask of s ones leaves the image as it is, where each member that has a row is below s
pub image-mask : (rows : List ℕ) (s x : ℕ) → length rows ≤ s → image_of rows (bit_and x (2 ^ s - 1)) ≡ image_of rows x
image-mask rows s x h = rw and_mask (image-ext rows (x % 2 ^ s) x (λ q l. bit-mod s x q (omega arith)))

-- the image of a set y of t and the members of z is t's row and the image of z
pub image-split : (rows : List ℕ) (y t z : ℕ) → t < length rows → get_or rows t 0 < 2 ^ 64 → ((p : ℕ) → bit y p ≡ (eqb t p || bit z p))
    → image_of rows y ≡ bit_or (get_or rows t 0) (image_of rows z)
unfolding image_of
image-split rows y t z h l e =
    sym
    (word-unique 64 (bit_or (get_or rows t 0) (image_of rows z)) (reached rows y) (or_lt 64 (get_or rows t 0) (image_of rows z) l (image-lt rows z))
    (λ p g.
    bit-or (get_or rows t 0) (image_of rows z) p
    ∙ rw (bit-image rows z p g) (sym (any-insert (length rows) t (bit y) (bit z) (λ q. bit (get_or rows q 0) p) h e))))

-- once the row of y's lowest member is gathered, the image of the others is left
pub image-lowest : (rows : List ℕ) (k acc y : ℕ) → 0 < y → y < 2 ^ k → count_trailing_zeros k y < length rows → get_or rows (count_trailing_zeros k y) 0 < 2 ^ 64
    → bit_or (bit_or acc (get_or rows (count_trailing_zeros k y) 0)) (image_of rows (bit_and y (y - 1))) ≡ bit_or acc (image_of rows y)
image-lowest rows k acc y g h l b =
    rw (image-split rows y (count_trailing_zeros k y) (bit_and y (y - 1)) l b (lowest-bit k y g h))
    (or_assoc acc (get_or rows (count_trailing_zeros k y) 0) (image_of rows (bit_and y (y - 1))))

-- with no member left, what is gathered is all
pub image-done : (rows : List ℕ) (acc y : ℕ) → y ≡ 0 → bit_or acc (image_of rows y) ≡ acc
image-done rows acc y e = rw (e, image-zero) (or_zero_r acc)
