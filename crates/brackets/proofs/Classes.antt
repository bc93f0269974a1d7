-- The search for a class by its name: one law for each way out of the code.
use Prim.Native.Nat.{ℕ, zero, suc, ◌+◌, ◌-◌, ◌<◌, ◌≤◌}
use native.Mathlib.Omega.{arith}
use native.Mathlib.Numerals.{add-one}
use mathlib.Core.Path.{◌≡◌, refl, sym, ap, ◌∙◌}
use mathlib.Core.Bool.{Bool, true, false, cond}
use mathlib.Core.List.{List, [], ◌∷◌, ◌++◌}
use mathlib.Core.Option.{some}
use lib.Dec.{eqb}
use lib.Seq.{take_all}
use mathlib.Core.Logic.{◌⊎◌, inl, inr}
use lib.ListN.{length, get_or, drop, length-append, length-drop, drop_of_length-le}
use Rattle.std.specs.Prelude.{Some, None}
use Rattle.std.specs.List.{starts_with, slice_range}
use Rattle.std.specs.Cmp.Lexicographic.{pointwise}
use Rattle.brackets.specs.declared.class.Class.{Class}
use Rattle.brackets.specs.declared.cursor.AtomCursor.{AtomCursor}
use Rattle.brackets.specs.Form.{class_name}
use Rattle.brackets.specs.Brackets.{same_bytes, is_class, find_class}
use Rattle.brackets.specs.Answers.{cursor_at}
use Rattle.brackets.specs.Promises.{ClassTable, class_shown}
use Rattle.brackets.proofs.ClassTables.{class-none, rows-twelve, row-text}
use Rattle.runs.proofs.Tests.{clash, eqb_swap}

-- the library's comparison of two lists is that of their bytes

bytes-same : (t l : List ℕ) → pointwise eqb t l ≡ same_bytes l t
unfolding same_bytes
bytes-same [] [] = refl
bytes-same [] (b ∷ l) = refl
bytes-same (a ∷ t) [] = refl
bytes-same (a ∷ t) (b ∷ l) = rw (bytes-same t l, eqb_swap a b)

text-long : (c : ℕ) → length (class_name c ++ (58 ∷ 93 ∷ [])) ≡ length (class_name c) + 2
text-long c = length-append (class_name c) (58 ∷ 93 ∷ [])

module _ (s : List ℕ) (p : ℕ) where
  -- nothing is found behind the end
  pub find-behind : (length s < p) ⊎ (length s < length s) → None ≡ class_shown p (find_class 12 0 (drop p s))
  find-behind (inl h) = let g : length s ≤ p = omega arith in rw (drop_of_length-le s g, class-none)
  find-behind (inr h) = absurd (omega arith)

  -- the bytes from a place on
  pub rest-whole : (rest : List ℕ) → rest ≡ slice_range s p (length s) → drop p s ≡ rest
  rest-whole rest e = sym (e ∙ take_all (length s - p) (drop p s) (rw length-drop (omega arith)))

-- the search, for a class c or a later one
module _ (l : List ℕ) (c : ℕ) (inv : find_class (12 - c) c l ≡ find_class 12 0 l) where
  pub find-end : (p : ℕ) → 12 ≤ c → None ≡ class_shown p (find_class 12 0 l)
  unfolding find_class
  find-end p h = let g : 12 - c ≡ 0 = omega arith in ap (class_shown p) (rw g at inv)

  module _ (rows : List Class) (is : ClassTable rows) (d : Class) (low : c < length rows) (r : Bool) (e : r ≡ starts_with eqb l (get_or rows c d).text.now) where
    below : c < 12
    below = rw (rows-twelve rows is) at low

    less : 12 - c ≡ suc (12 - (c + 1))
    less = let h : c < 12 = below in omega arith

    text : (get_or rows c d).text.now ≡ class_name c ++ (58 ∷ 93 ∷ [])
    text = row-text rows is d c below

    tested : r ≡ is_class c l
    tested = e ∙ rw (text, bytes-same, text-long c)

    pub find-found : r ≡ true → (p : ℕ) (n : AtomCursor) → n ≡ cursor_at (p + length (get_or rows c d).text.now) → Some (c, n) ≡ class_shown p (find_class 12 0 l)
    unfolding find_class
    find-found h p n k =
        let same : find_class 12 0 l ≡ some c = sym (rw (less, sym tested ∙ h) at inv) in
        rw (same, k, text, text-long c)

    pub find-on : r ≡ false → find_class (12 - (c + 1)) (c + 1) l ≡ find_class 12 0 l
    unfolding find_class
    find-on h = rw (← inv, less, sym tested ∙ h, add-one c)

-- a class that was found is one of those looked for, and its name begins the bytes
module _ (l : List ℕ) (d : ℕ) where
  abbrev Is-below : ℕ → Type 0
  Is-below n = (d < n) × (is_class d l ≡ true)

  pub found-class : (k c : ℕ) → find_class k c l ≡ some d → Is-below (c + k)
  unfolding find_class
  found-class zero c h = clash (cc)
  found-class (suc k) c h = go (is_class c l) refl (λ f. found-class k (suc c) f) h
    where
      go : (t : Bool) → is_class c l ≡ t → (find_class k (suc c) l ≡ some d → Is-below (suc c + k)) → cond t (some c) (find_class k (suc c) l) ≡ some d → Is-below (c + suc k)
      go true e rest f = let same : c ≡ d = cc in (omega arith, rw (← same) e)
      go false e rest f = let (less, there) = rest f in (omega arith, there)
