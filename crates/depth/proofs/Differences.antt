-- Whole numbers as differences of two natural numbers: their sums and their order.
use Prim.Native.Nat.{ℕ, suc, ◌+◌, ◌-◌, ◌<◌, ◌≤◌}
use native.Mathlib.Omega.{arith}
use mathlib.Core.Path.{◌≡◌, refl, sym, ap, ◌∙◌}
use mathlib.Core.Bool.{true, false}
use lib.Dec.{leb}
use lib.IntN.{ℤ, pos, negsuc, sub_ℕ, nat_abs, ◌+ℤ◌}
use lib.Signed.{le_z}
use borrow.Author.Tests.{lt-ltb, le-ltb, le-leb, lt-leb, leb-true, leb-false}
use Rattle.runs.proofs.Tests.{clash, either, tests-ext}

pub sub-above : (a b : ℕ) → b ≤ a → sub_ℕ a b ≡ pos (a - b)
sub-above a b h = rw (le-ltb a b h) refl

pub sub-below : (a b : ℕ) → a < b → sub_ℕ a b ≡ negsuc (b - suc a)
sub-below a b h = rw (lt-ltb a b h) refl

-- the same difference
pub sub_same : (a b c d : ℕ) → a + d ≡ c + b → sub_ℕ a b ≡ sub_ℕ c d
sub_same a b c d e = either a b low high
  where
    low : a < b → sub_ℕ a b ≡ sub_ℕ c d
    low h =
        let less : c < d = omega arith in
        let same : b - suc a ≡ d - suc c = omega arith in
        sub-below a b h ∙ ap negsuc same ∙ sym (sub-below c d less)

    high : b ≤ a → sub_ℕ a b ≡ sub_ℕ c d
    high h =
        let less : d ≤ c = omega arith in
        let same : a - b ≡ c - d = omega arith in
        sub-above a b h ∙ ap pos same ∙ sym (sub-above c d less)

-- the sum of two
module _ (a b c d : ℕ) where
  pub sub-add : sub_ℕ a b +ℤ sub_ℕ c d ≡ sub_ℕ (a + c) (b + d)
  sub-add = either a b (λ h. either c d (low-low h) (low-high h)) (λ h. either c d (high-low h) (high-high h))
    where
      low-low : a < b → c < d → sub_ℕ a b +ℤ sub_ℕ c d ≡ sub_ℕ (a + c) (b + d)
      low-low g h =
          let less : a + c < b + d = omega arith in
          let same : suc ((b - suc a) + (d - suc c)) ≡ (b + d) - suc (a + c) = omega arith in
          rw (sub-below a b g, sub-below c d h, sub-below (a + c) (b + d) less) (ap negsuc same)

      low-high : a < b → d ≤ c → sub_ℕ a b +ℤ sub_ℕ c d ≡ sub_ℕ (a + c) (b + d)
      low-high g h = rw (sub-below a b g, sub-above c d h) (sub_same (c - d) (suc (b - suc a)) (a + c) (b + d) (omega arith))

      high-low : b ≤ a → c < d → sub_ℕ a b +ℤ sub_ℕ c d ≡ sub_ℕ (a + c) (b + d)
      high-low g h = rw (sub-above a b g, sub-below c d h) (sub_same (a - b) (suc (d - suc c)) (a + c) (b + d) (omega arith))

      high-high : b ≤ a → d ≤ c → sub_ℕ a b +ℤ sub_ℕ c d ≡ sub_ℕ (a + c) (b + d)
      high-high g h =
          let less : b + d ≤ a + c = omega arith in
          let same : (a - b) + (c - d) ≡ (a + c) - (b + d) = omega arith in
          rw (sub-above a b g, sub-above c d h, sub-above (a + c) (b + d) less) (ap pos same)

-- tests of order that pass together are one
leb-same : (a b c d : ℕ) → (a ≤ b → c ≤ d) → (c ≤ d → a ≤ b) → leb a b ≡ leb c d
leb-same a b c d f g = tests-ext (leb a b) (leb c d) (λ h. le-leb c d (f (leb-true a b h))) (λ h. le-leb a b (g (leb-true c d h)))

-- the order of two
module _ (a b c d : ℕ) where
  pub sub-le : le_z (sub_ℕ a b) (sub_ℕ c d) ≡ leb (a + d) (c + b)
  sub-le = either a b (λ h. either c d (low-low h) (low-high h)) (λ h. either c d (high-low h) (high-high h))
    where
      low-low : a < b → c < d → le_z (sub_ℕ a b) (sub_ℕ c d) ≡ leb (a + d) (c + b)
      low-low g h = rw (sub-below a b g, sub-below c d h) (leb-same (d - suc c) (b - suc a) (a + d) (c + b) (λ l. omega arith) (λ l. omega arith))

      low-high : a < b → d ≤ c → le_z (sub_ℕ a b) (sub_ℕ c d) ≡ leb (a + d) (c + b)
      low-high g h = rw (sub-below a b g, sub-above c d h) (sym (le-leb (a + d) (c + b) (omega arith)))

      high-low : b ≤ a → c < d → le_z (sub_ℕ a b) (sub_ℕ c d) ≡ leb (a + d) (c + b)
      high-low g h = rw (sub-above a b g, sub-below c d h) (sym (lt-leb (a + d) (c + b) (omega arith)))

      high-high : b ≤ a → d ≤ c → le_z (sub_ℕ a b) (sub_ℕ c d) ≡ leb (a + d) (c + b)
      high-high g h = rw (sub-above a b g, sub-above c d h) (leb-same (a - b) (c - d) (a + d) (c + b) (λ l. omega arith) (λ l. omega arith))

  pub le_in : a + d ≤ c + b → le_z (sub_ℕ a b) (sub_ℕ c d) ≡ true
  le_in h = sub-le ∙ le-leb (a + d) (c + b) h

  pub le_out : le_z (sub_ℕ a b) (sub_ℕ c d) ≡ true → a + d ≤ c + b
  le_out h = leb-true (a + d) (c + b) (sym sub-le ∙ h)

-- adding keeps the order
pub le-add : (a b c d e f : ℕ) → le_z (sub_ℕ c d) (sub_ℕ e f) ≡ true → le_z (sub_ℕ a b +ℤ sub_ℕ c d) (sub_ℕ a b +ℤ sub_ℕ e f) ≡ true
le-add a b c d e f h = rw (sub-add a b c d, sub-add a b e f) (le_in (a + c) (b + d) (a + e) (b + f) (omega (arith, le_out c d e f h)))

-- The order of all.
pub le_refl : (x : ℤ) → le_z x x ≡ true
le_refl (pos a) = le-leb a a (omega arith)
le_refl (negsuc a) = le-leb a a (omega arith)

pub le_trans : (x y z : ℤ) → le_z x y ≡ true → le_z y z ≡ true → le_z x z ≡ true
le_trans (pos a) (pos b) (pos c) g h = le-leb a c (omega (arith, leb-true a b g, leb-true b c h))
le_trans (pos a) (pos b) (negsuc c) g h = clash (cc)
le_trans (pos a) (negsuc b) z g h = clash (cc)
le_trans (negsuc a) (pos b) (pos c) g h = refl
le_trans (negsuc a) (pos b) (negsuc c) g h = clash (cc)
le_trans (negsuc a) (negsuc b) (pos c) g h = refl
le_trans (negsuc a) (negsuc b) (negsuc c) g h = le-leb c a (omega (arith, leb-true b a g, leb-true c b h))

pub le_same : (x y : ℤ) → le_z x y ≡ true → le_z y x ≡ true → x ≡ y
le_same (pos a) (pos b) g h = let same : a ≡ b = omega (arith, leb-true a b g, leb-true b a h) in ap pos same
le_same (pos a) (negsuc b) g h = clash (cc)
le_same (negsuc a) (pos b) g h = clash (cc)
le_same (negsuc a) (negsuc b) g h = let same : a ≡ b = omega (arith, leb-true b a g, leb-true a b h) in ap negsuc same

pub le-other : (x y : ℤ) → le_z x y ≡ false → le_z y x ≡ true
le-other (pos a) (pos b) h = le-leb b a (omega (arith, leb-false a b h))
le-other (pos a) (negsuc b) h = refl
le-other (negsuc a) (pos b) h = clash (cc)
le-other (negsuc a) (negsuc b) h = le-leb a b (omega (arith, leb-false b a h))

-- Numbers that are not above 0.
pub fallen : (x : ℤ) → le_z x (pos 0) ≡ true → x ≡ sub_ℕ 0 (nat_abs x)
fallen (pos n) h = let none : n ≡ 0 = omega (arith, leb-true n 0 h) in rw none (sym (sub-above 0 0 (omega arith)))
fallen (negsuc n) h = let same : n ≡ suc n - 1 = omega arith in ap negsuc same ∙ sym (sub-below 0 (suc n) (omega arith))

pub fall-size : (a b : ℕ) → a ≤ b → nat_abs (sub_ℕ a b) ≡ b - a
fall-size a b h = either a b low high
  where
    low : a < b → nat_abs (sub_ℕ a b) ≡ b - a
    low g = rw (sub-below a b g) (omega arith)

    high : b ≤ a → nat_abs (sub_ℕ a b) ≡ b - a
    high g = rw (sub-above a b g) (omega arith)
