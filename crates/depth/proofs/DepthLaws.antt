-- Laws of the depths of a run: the lowest one is the depth at some point and above none, and what they are of runs one behind the other.
use Prim.Native.Nat.{ℕ, zero, suc, ◌+◌, ◌-◌, ◌≤◌}
use native.Mathlib.Omega.{arith}
use mathlib.Core.Path.{◌≡◌, refl, sym, ap, ◌∙◌}
use mathlib.Core.Bool.{Bool, true, false, cond}
use mathlib.Core.List.{List, [], ◌∷◌, ◌++◌}
use lib.Dec.{eqb}
use lib.ListN.{length, take, length-append}
use lib.Seq.{take-append-le, take-append-add}
use lib.IntN.{ℤ, pos, ◌+ℤ◌}
use lib.Signed.{le_z}
use Rattle.runs.proofs.Tests.{either}
use Rattle.depth.specs.Depths.{occurrences, depth_after, lower, lowest_to, lowest_depth}
use Rattle.depth.proofs.Differences.{sub-add, le-add, le_refl, le_trans, le_same, le-other}

-- Occurrences.

pub occurs-append : (k : ℕ) (u v : List ℕ) → occurrences k (u ++ v) ≡ occurrences k u + occurrences k v
unfolding occurrences
occurs-append k [] v = omega arith
occurs-append k (x ∷ u) v = omega (arith, occurs-append k u v)

pub occurs-most : (k : ℕ) (w : List ℕ) → occurrences k w ≤ length w
unfolding occurrences
occurs-most k [] = omega arith
occurs-most k (x ∷ w) = go (eqb x k) (occurs-most k w)
  where
    go : (t : Bool) {n : ℕ} → n ≤ length w → cond t 1 0 + n ≤ suc (length w)
    go true h = omega arith
    go false h = omega arith

pub occurs-front : (k i : ℕ) (w : List ℕ) → occurrences k (take i w) ≤ occurrences k w
unfolding occurrences
occurs-front k zero w = omega arith
occurs-front k (suc i) [] = omega arith
occurs-front k (suc i) (x ∷ w) = omega (arith, occurs-front k i w)

-- The lower of two.

pub lower-left : (a b : ℤ) → le_z (lower a b) a ≡ true
unfolding lower
lower-left a b = go (le_z a b) refl
  where
    go : (t : Bool) → le_z a b ≡ t → le_z (cond t a b) a ≡ true
    go true e = le_refl a
    go false e = le-other a b e

pub lower-right : (a b : ℤ) → le_z (lower a b) b ≡ true
unfolding lower
lower-right a b = go (le_z a b) refl
  where
    go : (t : Bool) → le_z a b ≡ t → le_z (cond t a b) b ≡ true
    go true e = e
    go false e = le_refl b

-- it is one of them
pub lower-elim : (P : ℤ → Type 0) (a b : ℤ) → P a → P b → P (lower a b)
unfolding lower
lower-elim P a b f g = go (le_z a b)
  where
    go : (t : Bool) → P (cond t a b)
    go true = f
    go false = g

-- The lowest of several: one of them, and above none.
pub record Lowest (n : ℕ) (f : ℕ → ℤ) (z : ℤ) : Type 0 where
  pub place : ℕ
  pub inside : place ≤ n
  pub there : z ≡ f place
  pub under : (i : ℕ) → i ≤ n → le_z z (f i) ≡ true

-- there is one such number only
pub lowest-one : {n : ℕ} {f : ℕ → ℤ} {y z : ℤ} → Lowest n f y → Lowest n f z → y ≡ z
lowest-one {n} {f} {y} {z} g h =
    le_same y z (ap (λ (x : ℤ). le_z y x) h.there ∙ g.under h.place h.inside) (ap (λ (x : ℤ). le_z z x) g.there ∙ h.under g.place g.inside)

pub lowest-is : (n : ℕ) (f : ℕ → ℤ) → Lowest n f (lowest_to n f)
unfolding lowest_to
lowest-is zero f =
    record { place = 0; inside = omega arith; there = refl; under = λ i h. let none : i ≡ 0 = omega arith in rw none (le_refl (f 0)) }
lowest-is (suc n) f = both (lowest-is n f)
  where
    both : Lowest n f (lowest_to n f) → Lowest (suc n) f (lower (lowest_to n f) (f (suc n)))
    both g = lower-elim (λ z. le_z z (lowest_to n f) ≡ true → le_z z (f (suc n)) ≡ true → Lowest (suc n) f z) (lowest_to n f) (f (suc n)) old new
        (lower-left (lowest_to n f) (f (suc n)))
        (lower-right (lowest_to n f) (f (suc n)))
      where
        all : (z : ℤ) → le_z z (lowest_to n f) ≡ true → le_z z (f (suc n)) ≡ true → (i : ℕ) → i ≤ suc n → le_z z (f i) ≡ true
        all z l m i h = either n i (λ o. let last : i ≡ suc n = omega arith in rw last m) (λ o. le_trans z (lowest_to n f) (f i) l (g.under i o))

        old : le_z (lowest_to n f) (lowest_to n f) ≡ true → le_z (lowest_to n f) (f (suc n)) ≡ true → Lowest (suc n) f (lowest_to n f)
        old l m = record { place = g.place; inside = omega (arith, g.inside); there = g.there; under = all (lowest_to n f) l m }

        new : le_z (f (suc n)) (lowest_to n f) ≡ true → le_z (f (suc n)) (f (suc n)) ≡ true → Lowest (suc n) f (f (suc n))
        new l m = record { place = suc n; inside = omega arith; there = refl; under = all (f (suc n)) l m }

-- The depths of a run.
module _ (opening closing : ℕ) where
  -- the depth behind the first i keys
  abbrev pub depth_at : List ℕ → ℕ → ℤ
  depth_at w i = depth_after opening closing (take i w)

  abbrev pub LowestIn : List ℕ → ℤ → Type 0
  LowestIn w z = Lowest (length w) (depth_at w) z

  -- the lowest depth is that at some point, and no point has a lower one
  pub lowest-depth : (w : List ℕ) → LowestIn w (lowest_depth opening closing w)
  unfolding lowest_depth
  lowest-depth w = lowest-is (length w) (depth_at w)

  -- a number that is so is it
  pub lowest-only : (w : List ℕ) (z : ℤ) → LowestIn w z → z ≡ lowest_depth opening closing w
  lowest-only w z h = lowest-one h (lowest-depth w)

  pub depth-none : depth_after opening closing [] ≡ pos 0
  unfolding depth_after occurrences
  depth-none = refl

  -- the end of two runs, one behind the other, is the sum of their ends
  pub end-splice : (u v : List ℕ) → depth_after opening closing (u ++ v) ≡ depth_after opening closing u +ℤ depth_after opening closing v
  unfolding depth_after
  end-splice u v = rw (occurs-append opening u v, occurs-append closing u v) (sym (sub-add (occurrences opening u) (occurrences closing u) (occurrences opening v) (occurrences closing v)))

  -- a depth more keeps the order of depths
  deeper : (u v w : List ℕ) → le_z (depth_after opening closing v) (depth_after opening closing w) ≡ true
      → le_z (depth_after opening closing u +ℤ depth_after opening closing v) (depth_after opening closing u +ℤ depth_after opening closing w) ≡ true
  unfolding depth_after
  deeper u v w h = le-add (occurrences opening u) (occurrences closing u) (occurrences opening v) (occurrences closing v) (occurrences opening w) (occurrences closing w) h

  module _ (u v : List ℕ) where
    abbrev both : ℤ
    both = lower (lowest_depth opening closing u) (depth_after opening closing u +ℤ lowest_depth opening closing v)

    -- the depths at the points of u, and at those of v behind it
    before : (i : ℕ) → i ≤ length u → depth_at (u ++ v) i ≡ depth_at u i
    before i h = ap (depth_after opening closing) (take-append-le i u v h)

    behind : (j : ℕ) → depth_at (u ++ v) (length u + j) ≡ depth_after opening closing u +ℤ depth_at v j
    behind j = ap (depth_after opening closing) (take-append-add u v j) ∙ end-splice u (take j v)

    long : length (u ++ v) ≡ length u + length v
    long = length-append u v

    under-both : (i : ℕ) → i ≤ length (u ++ v) → le_z both (depth_at (u ++ v) i) ≡ true
    under-both i h = either (length u) i late early
      where
        early : i ≤ length u → le_z both (depth_at (u ++ v) i) ≡ true
        early l = rw (before i l)
            (le_trans both (lowest_depth opening closing u) (depth_at u i) (lower-left (lowest_depth opening closing u) (depth_after opening closing u +ℤ lowest_depth opening closing v)) ((lowest-depth u).under i l))

        late : suc (length u) ≤ i → le_z both (depth_at (u ++ v) i) ≡ true
        late l =
            let j = i - length u in
            let at : i ≡ length u + (i - length u) = omega arith in
            let fits : i - length u ≤ length v = omega (arith, long) in
            let low = lowest-depth v in
            let up = deeper u (take low.place v) (take (i - length u) v) (ap (λ (z : ℤ). le_z z (depth_at v (i - length u))) (sym low.there) ∙ low.under (i - length u) fits) in
            ap (λ (n : ℕ). le_z both (depth_at (u ++ v) n)) at
            ∙ ap (le_z both) (behind (i - length u))
            ∙ le_trans both (depth_after opening closing u +ℤ lowest_depth opening closing v) (depth_after opening closing u +ℤ depth_at v (i - length u))
            (lower-right (lowest_depth opening closing u) (depth_after opening closing u +ℤ lowest_depth opening closing v))
            (ap (λ (z : ℤ). le_z (depth_after opening closing u +ℤ z) (depth_after opening closing u +ℤ depth_at v (i - length u))) low.there ∙ up)

    abbrev Found : ℤ → Type 0
    Found z = ((i : ℕ) → i ≤ length (u ++ v) → le_z z (depth_at (u ++ v) i) ≡ true) → LowestIn (u ++ v) z

    -- their lowest depth is the lower of the first's lowest and the first's end plus the second's lowest
    pub lowest-splice : lowest_depth opening closing (u ++ v) ≡ lower (lowest_depth opening closing u) (depth_after opening closing u +ℤ lowest_depth opening closing v)
    lowest-splice = sym (lowest-only (u ++ v) both (found under-both))
      where
        found : Found both
        found = lower-elim Found (lowest_depth opening closing u) (depth_after opening closing u +ℤ lowest_depth opening closing v)
            (λ below. let low = lowest-depth u in record { place = low.place; inside = omega (arith, low.inside, long); there = low.there ∙ sym (before low.place low.inside); under = below })
            (λ below. let low = lowest-depth v in record { place = length u + low.place; inside = omega (arith, low.inside, long); there = ap (λ (z : ℤ). depth_after opening closing u +ℤ z) low.there ∙ sym (behind low.place); under = below })
