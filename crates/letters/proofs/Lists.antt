-- Lists that are in a relation entry by entry.
use native.Mathlib.Omega.{arith}
use Prim.Native.Nat.{ℕ, ◌<◌}
use mathlib.Core.Path.{◌≡◌, refl, sym, ap}
use mathlib.Core.Logic.{inl, inr}
use mathlib.Core.List.{List, [], ◌∷◌, ◌++◌}
use lib.Dec.{eqb}
use Rattle.letters.specs.Letters.{SameLetter, Each, SameLetters}
use Rattle.letters.proofs.Laws.{other, letter-test}
use Rattle.runs.specs.Keys.{member}

module _ {A : Type 0} (R : A → A → Type 0) where
  -- what stands against two lists one after the other
  pub record Split (u x v : List A) : Type 0 where
    pub left : List A
    pub right : List A
    pub whole : v ≡ left ++ right
    pub front : Each R u left
    pub back : Each R x right

  pub each-split : (u x v : List A) → Each R (u ++ x) v → Split u x v
  each-split [] x v e = record { left = []; right = v; whole = refl; front = tt; back = e }
  each-split (j ∷ u) x (k ∷ v) (r, e) =
      let s = each-split u x v e in
      record { left = k ∷ s.left; right = s.right; whole = ap (λ (l : List A). k ∷ l) s.whole; front = (r, s.front); back = s.back }
  each-split (j ∷ u) x [] e = elim e [ ]

  -- nothing stands against nothing
  pub each_none : (u v : List A) → u ≡ [] → Each R u v → v ≡ []
  each_none u v h e = grind arith

  -- one entry stands against one
  pub each-one : (j : A) (v : List A) → Each R (j ∷ []) v → (k : A) × (v ≡ k ∷ []) × R j k
  each-one j v e = grind arith

  pub each-refl : ((k : A) → R k k) → (w : List A) → Each R w w
  each-refl f [] = tt
  each-refl f (k ∷ w) = (f k, each-refl f w)

  pub each-sym : ((j k : A) → R j k → R k j) → (u v : List A) → Each R u v → Each R v u
  each-sym f [] [] e = tt
  each-sym f (j ∷ u) (k ∷ v) (r, e) = (f j k r, each-sym f u v e)
  each-sym f [] (k ∷ v) e = elim e [ ]
  each-sym f (j ∷ u) [] e = elim e [ ]

pub letter-sym : (j k : ℕ) → SameLetter j k → SameLetter k j
letter-sym j k (inl e) = inl (sym e)
letter-sym j k (inr e) = inr (rw e (sym (other j).back))

-- a number below 65, none of which is a letter, is in both or in neither
pub letters-member : (n : ℕ) → n < 65 → (u v : List ℕ) → SameLetters u v → member n v ≡ member n u
letters-member n h [] [] e = refl
letters-member n h (j ∷ u) (k ∷ v) (s, e) = rw (letter-test (eqb n) (λ i. (other i).small n h) j k s, letters-member n h u v e) refl
letters-member n h [] (k ∷ v) e = elim e [ ]
letters-member n h (j ∷ u) [] e = elim e [ ]

-- the same letters the other way round
pub letters-sym : (u v : List ℕ) → SameLetters u v → SameLetters v u
letters-sym = each-sym SameLetter letter-sym
