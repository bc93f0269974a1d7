-- Laws of sets as numbers, over any width s.
use Prim.Native.Nat.{ℕ, zero, suc, ◌+◌, ◌-◌, ◌*◌, ◌/◌, ◌%◌, ◌^◌, ◌<◌, ◌≤◌, suc-le-suc, min, max}
use native.Mathlib.Omega.{arith}
use native.Mathlib.Numerals.{add-one}
use native.Mathlib.Nat.{pow-suc, le_of_suc-le-suc, lt_of_lt_of_le, le-add_right, le-add_left, mul-mod_left, mod-lt, mod-eq_of_lt}
use mathlib.Core.Path.{◌≡◌, refl, sym, ◌∙◌}
use mathlib.Core.Bool.{Bool, true, false, cond, ◌&&◌, ◌||◌}
use lib.Dec.{eqb, eqb-zero-suc, eqb-suc-zero, eqb-suc-suc}
use lib.Pow.{pow-add, pow-lt, pow_pos, pow_mono, mod-pow-add}
use lib.Bits.{bit_and, bit_or, and_lt, and_step, or_step, or_lt, and_mask}
use Rattle.stateset.specs.Set.{bit, word}

-- the digits of a sum of a double and a digit
half : (a : ℕ) (b : Bool) → (a * 2 + cond b 1 0) / 2 ≡ a
half a b = grind arith

odd : (a : ℕ) (b : Bool) → eqb ((a * 2 + cond b 1 0) % 2) 1 ≡ b
odd a b = grind arith

-- nothing
-- the lowest digit, and the others
pub bit-first : (w : ℕ) → bit w 0 ≡ eqb (w % 2) 1
unfolding bit
bit-first w = refl

pub bit-half : (w p : ℕ) → bit (w / 2) p ≡ bit w (suc p)
unfolding bit
bit-half w p = refl

pub bit-zero : (p : ℕ) → bit 0 p ≡ false
unfolding bit
bit-zero zero = refl
bit-zero (suc p) = bit-zero p

-- a set's word has just its members below the width
pub bit_word : (s : ℕ) (X : ℕ → Bool) (p : ℕ) → p < s → bit (word s X) p ≡ X p
unfolding bit word
bit_word zero X p h = absurd (never h)
  where
    never : p < 0 → ⊥
    never h = omega arith
bit_word (suc s) X zero h = odd (word s (λ p. X (suc p))) (X zero)
bit_word (suc s) X (suc p) h = rw (half (word s (λ p. X (suc p))) (X zero)) (bit_word s (λ p. X (suc p)) p (le_of_suc-le-suc h))

-- and none from the width on
pub word-high : (s : ℕ) (X : ℕ → Bool) (p : ℕ) → s ≤ p → bit (word s X) p ≡ false
unfolding bit word
word-high zero X p h = bit-zero p
word-high (suc s) X zero h = absurd (never h)
  where
    never : suc s ≤ 0 → ⊥
    never h = omega arith
word-high (suc s) X (suc p) h = rw (half (word s (λ p. X (suc p))) (X zero)) (word-high s (λ p. X (suc p)) p (le_of_suc-le-suc h))

pub word_lt : (s : ℕ) (X : ℕ → Bool) → word s X < 2 ^ s
unfolding word
word_lt zero X = omega arith
word_lt (suc s) X = rw (pow-suc 2 s) (go (X zero) (word_lt s (λ p. X (suc p))))
  where
    go : (b : Bool) {n m : ℕ} → n < m → n * 2 + cond b 1 0 < m * 2
    go true h = omega arith
    go false h = omega arith

-- a digit is told by whether it is 1
pub digit : (d : ℕ) (b : Bool) → d < 2 → eqb d 1 ≡ b → d ≡ cond b 1 0
digit d b h e = grind arith

-- a number below the width's power is the word of its digits
pub word-unique : (s w : ℕ) (X : ℕ → Bool) → w < 2 ^ s → ((p : ℕ) → p < s → bit w p ≡ X p) → w ≡ word s X
unfolding bit word
word-unique zero w X h e = omega arith
word-unique (suc s) w X h e =
    let small : w < 2 ^ s * 2 = rw (pow-suc 2 s) at h in
    let high : w / 2 ≡ word s (λ p. X (suc p)) = word-unique s (w / 2) (λ p. X (suc p)) (omega arith) (λ p l. e (suc p) (suc-le-suc l)) in
    let low : w % 2 ≡ cond (X zero) 1 0 = digit (w % 2) (X zero) (omega arith) (e zero (omega arith)) in
    rw (← high, ← low) (omega arith)

pub word-ext : (s : ℕ) (X Y : ℕ → Bool) → ((p : ℕ) → p < s → X p ≡ Y p) → word s X ≡ word s Y
word-ext s X Y e = word-unique s (word s X) Y (word_lt s X) (λ p h. bit_word s X p h ∙ e p h)

-- two digits
max-or : (m n : ℕ) → m < 2 → n < 2 → eqb (max m n) 1 ≡ (eqb m 1 || eqb n 1)
max-or m n g h = grind arith

min-and : (m n : ℕ) → m < 2 → n < 2 → eqb (min m n) 1 ≡ (eqb m 1 && eqb n 1)
min-and m n g h = grind arith

-- union and intersection, digit by digit
pub bit-or : (a b p : ℕ) → bit (bit_or a b) p ≡ (bit a p || bit b p)
unfolding bit
bit-or a b zero =
    let e : bit_or a b % 2 ≡ max (a % 2) (b % 2) = omega (arith, or_step a b) in
    rw e (max-or (a % 2) (b % 2) (omega arith) (omega arith))
bit-or a b (suc p) =
    let e : bit_or a b / 2 ≡ bit_or (a / 2) (b / 2) = omega (arith, or_step a b) in
    rw e (bit-or (a / 2) (b / 2) p)

pub bit-and : (a b p : ℕ) → bit (bit_and a b) p ≡ (bit a p && bit b p)
unfolding bit
bit-and a b zero =
    let e : bit_and a b % 2 ≡ min (a % 2) (b % 2) = omega (arith, and_step a b) in
    rw e (min-and (a % 2) (b % 2) (omega arith) (omega arith))
bit-and a b (suc p) =
    let e : bit_and a b / 2 ≡ bit_and (a / 2) (b / 2) = omega (arith, and_step a b) in
    rw e (bit-and (a / 2) (b / 2) p)

-- one member
pub bit-one : (k p : ℕ) → bit (2 ^ k) p ≡ eqb k p
unfolding bit
bit-one zero zero = refl
bit-one zero (suc p) = bit-zero p ∙ sym (eqb-zero-suc p)
bit-one (suc k) zero =
    let e : 2 ^ suc k % 2 ≡ 0 = rw (pow-suc 2 k) (omega arith) in
    rw e (sym (eqb-suc-zero k))
bit-one (suc k) (suc p) =
    let e : 2 ^ suc k / 2 ≡ 2 ^ k = rw (pow-suc 2 k) (omega arith) in
    rw (e, eqb-suc-suc) (bit-one k p)

-- union and one member as words
pub word-or : (s : ℕ) (X Y : ℕ → Bool) → bit_or (word s X) (word s Y) ≡ word s (λ p. X p || Y p)
word-or s X Y =
    word-unique s (bit_or (word s X) (word s Y)) (λ p. X p || Y p) (or_lt s (word s X) (word s Y) (word_lt s X) (word_lt s Y))
    (λ p h. bit-or (word s X) (word s Y) p ∙ rw (bit_word s X p h, bit_word s Y p h))

pub word_and : (s : ℕ) (X Y : ℕ → Bool) → bit_and (word s X) (word s Y) ≡ word s (λ p. X p && Y p)
word_and s X Y =
    word-unique s (bit_and (word s X) (word s Y)) (λ p. X p && Y p) (and_lt s (word s X) (word s Y) (word_lt s X) (word_lt s Y))
    (λ p h. bit-and (word s X) (word s Y) p ∙ rw (bit_word s X p h, bit_word s Y p h))

pub word-one : (s k : ℕ) → k < s → 2 ^ k ≡ word s (λ p. eqb k p)
word-one s k h = word-unique s (2 ^ k) (λ p. eqb k p) (pow-lt h) (λ p l. bit-one k p)

pub word_none : (s : ℕ) → 0 ≡ word s (λ p. false)
word_none s = word-unique s 0 (λ p. false) (pow_pos s) (λ p h. bit-zero p)

-- a number is below its power
lt-pow : (n : ℕ) → n < 2 ^ n
lt-pow zero = omega arith
lt-pow (suc n) = let h : n < 2 ^ n = lt-pow n in rw (pow-suc 2 n) (omega arith)

-- two sets with the same members are one
pub bits-ext : (a b : ℕ) → ((p : ℕ) → bit a p ≡ bit b p) → a ≡ b
bits-ext a b e =
    word-unique (a + b) a (bit b) (lt_of_lt_of_le (lt-pow a) (pow_mono (le-add_right a b))) (λ p h. e p)
    ∙ sym (word-unique (a + b) b (bit b) (lt_of_lt_of_le (lt-pow b) (pow_mono (le-add_left b a))) (λ p h. refl))

-- a union may be grouped at will
pub or_assoc : (a b c : ℕ) → bit_or (bit_or a b) c ≡ bit_or a (bit_or b c)
or_assoc a b c =
    bits-ext (bit_or (bit_or a b) c) (bit_or a (bit_or b c))
    (λ p. rw (bit-or (bit_or a b) c p, bit-or a b p, bit-or a (bit_or b c) p, bit-or b c p) (or-three (bit a p) (bit b p) (bit c p)))
  where
    or-three : (x y z : Bool) → (x || y || z) ≡ (x || (y || z))
    or-three true y z = refl
    or-three false y z = refl

-- a number below a power has no digit from there on
pub bit_high : (s w p : ℕ) → w < 2 ^ s → s ≤ p → bit w p ≡ false
bit_high s w p h l = rw (word-unique s w (bit w) h (λ q g. refl)) (word-high s (bit w) p l)

-- a power is nothing below a lower one
pub pow-high : (s p : ℕ) → s ≤ p → 0 ≡ 2 ^ p % 2 ^ s
pow-high s p h =
    let e : p ≡ p - s + s = omega arith in
    rw (e, pow-add 2 (p - s) s) (sym (mul-mod_left (2 ^ (p - s)) (2 ^ s)))

-- the rest by a power, its lowest digit apart
halves : (s w : ℕ) → w % 2 ^ suc s ≡ w / 2 % 2 ^ s * 2 + w % 2
halves s w = rw (← add-one s) (mod-pow-add w s 1)

-- the rest by a power has the number's members below the exponent
pub bit-mod : (s w p : ℕ) → p < s → bit (w % 2 ^ s) p ≡ bit w p
unfolding bit
bit-mod zero w p h = absurd (omega arith)
bit-mod (suc s) w zero h = let e : w % 2 ^ suc s % 2 ≡ w % 2 = omega (arith, halves s w) in rw e
bit-mod (suc s) w (suc p) h =
    let e : w % 2 ^ suc s / 2 ≡ w / 2 % 2 ^ s = omega (arith, halves s w) in
    rw e (bit-mod s (w / 2) p (le_of_suc-le-suc h))

-- one member, if it is chosen
pub bit-chosen : (b : Bool) (k p : ℕ) → bit (cond b (2 ^ k) 0) p ≡ (b && eqb k p)
bit-chosen true k p = bit-one k p
bit-chosen false k p = bit-zero p

-- The members below s.

-- a power of two that a word holds, by a shift
pub shifted : (s : ℕ) → s < 64 → 1 * 2 ^ s % 2 ^ 64 ≡ 2 ^ s
shifted s h = let l : 2 ^ s < 2 ^ 64 = pow-lt {i = s} {j = 64} h in let e : 1 * 2 ^ s ≡ 2 ^ s = omega arith in rw e (mod-eq_of_lt l)

pub shifted-some : (s : ℕ) → s < 64 → 1 ≤ 1 * 2 ^ s % 2 ^ 64
shifted-some s h = rw (shifted s h) (pow_pos s)

-- a mask keeps them
pub masked : (s x : ℕ) → s < 64 → bit_and x (1 * 2 ^ s % 2 ^ 64 - 1) ≡ word s (bit x)
masked s x h = rw (shifted s h, and_mask x s) (word-unique s (x % 2 ^ s) (bit x) (mod-lt x (pow_pos s)) (λ p l. bit-mod s x p l))

-- a word has no others from its width on
pub word-whole : (s x : ℕ) → x < 2 ^ 64 → 64 ≤ s → x ≡ word s (bit x)
word-whole s x h l = word-unique s x (bit x) (lt_of_lt_of_le h (pow_mono l)) (λ p g. refl)
