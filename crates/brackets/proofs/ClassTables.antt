-- The table of the twelve classes, and the tests that all of them pass: each is one computation over the table.
use Prim.Native.Nat.{ℕ, zero, suc, ◌+◌, ◌<◌, ◌≤◌}
use native.Mathlib.Omega.{arith}
use native.Mathlib.Nat.{not-suc-le-zero, add-zero, zero-add}
use mathlib.Core.Path.{◌≡◌, refl, sym, ap, ◌∙◌}
use mathlib.Core.Bool.{true}
use mathlib.Core.List.{List, [], ◌∷◌, ◌++◌, map}
use mathlib.Core.Option.{none, some}
use lib.Dec.{leb}
use lib.ListN.{length, get_or, get_or-map, length-map}
use borrow.Author.Tests.{leb-true}
use Rattle.brackets.specs.declared.class.Class.{Class}
use Rattle.brackets.specs.Form.{class_names, class_name}
use Rattle.brackets.specs.Sets.{Range, to, class_ranges}
use Rattle.brackets.specs.Brackets.{same_bytes, find_class}
use Rattle.brackets.specs.Promises.{ranges_of, ClassTable}
use Rattle.runs.specs.Keys.{is_line}
use Rattle.std.proofs.lemmas.List.{get_or_default}
use Rattle.std.proofs.Common.{◌*◌, Fits, w64}

-- what a function gives at k numbers from i on
unfoldable pub each : {A : Type 0} → ℕ → ℕ → (ℕ → A) → List A
each zero i f = []
each (suc k) i f = f i ∷ each k (suc i) f

module _ {A : Type 0} where
  each_from : (k i n : ℕ) (f : ℕ → A) (d : A) → n < k → get_or (each k i f) n d ≡ f (i + n)
  unfolding each
  each_from zero i n f d h = absurd (not-suc-le-zero h)
  each_from (suc k) i zero f d h = rw add-zero
  each_from (suc k) i (suc n) f d h =
      let e : i + suc n ≡ suc i + n = omega arith in
      rw e (each_from k (suc i) n f d (omega arith))

  each_at : (k n : ℕ) (f : ℕ → A) (d : A) → n < k → get_or (each k 0 f) n d ≡ f n
  each_at k n f d h = each_from k 0 n f d h ∙ rw zero-add

  -- two functions that give the same at these numbers are the same at one of them
  each_same : (k n : ℕ) (f g : ℕ → A) → each k 0 f ≡ each k 0 g → n < k → f n ≡ g n
  each_same k n f g e h = sym (each_at k n f (f n) h) ∙ ap (λ (l : List A). get_or l n (f n)) e ∙ each_at k n g (f n) h

-- a class's name has six bytes at most
names-short : each 12 0 (λ c. leb (length (class_name c)) 6) ≡ each 12 0 (λ c. true)
unfolding each class_names
names-short = refl

pub name-short : (c : ℕ) → c < 12 → length (class_name c) ≤ 6
name-short c h = leb-true _ _ (each_same 12 c (λ c. leb (length (class_name c)) 6) (λ c. true) names-short h)

ranges-few : each 12 0 (λ c. leb (length (ranges_of c)) 4) ≡ each 12 0 (λ c. true)
unfolding each class_ranges
ranges-few = refl

-- the code's table has a row for each class
names-twelve : length class_names ≡ 12
unfolding class_names
names-twelve = refl

ranges-twelve : length class_ranges ≡ 12
unfolding class_ranges
ranges-twelve = refl

module _ (rows : List Class) (is : ClassTable rows) where
  pub rows-twelve : length rows ≡ 12
  rows-twelve = sym (length-map rows (λ (r : Class). r.text.now)) ∙ ap (λ (l : List (List ℕ)). length l) is.texts ∙ length-map class_names (λ (n : List ℕ). n ++ (58 ∷ 93 ∷ [])) ∙ names-twelve

  -- with its name and the `:]` behind it, and its ranges
  module _ (d : Class) (c : ℕ) (low : c < 12) where
    pub row-text : (get_or rows c d).text.now ≡ class_name c ++ (58 ∷ 93 ∷ [])
    row-text = sym (get_or-map (λ (r : Class). r.text.now) rows c d) ∙ ap (λ (l : List (List ℕ)). get_or l c d.text.now) is.texts ∙ get_or_default _ c d.text.now (58 ∷ 93 ∷ []) (rw (length-map, names-twelve) low) ∙ get_or-map (λ (n : List ℕ). n ++ (58 ∷ 93 ∷ [])) class_names c []

    pub row-ranges : map (λ r. to r.0 r.1) (get_or rows c d).ranges.now ≡ ranges_of c
    row-ranges = sym (get_or-map (λ (r : Class). map (λ r. to r.0 r.1) r.ranges.now) rows c d) ∙ ap (λ (l : List (List Range)). get_or l c (map (λ r. to r.0 r.1) d.ranges.now)) is.ranges ∙ get_or_default class_ranges c _ [] (rw ranges-twelve low)

    row-few : length (get_or rows c d).ranges.now ≤ 4
    row-few = rw (sym (length-map (get_or rows c d).ranges.now (λ (r : ℕ × ℕ). to r.0 r.1)) ∙ ap (λ (l : List Range). length l) row-ranges) (leb-true _ _ (each_same 12 c (λ c. leb (length (ranges_of c)) 4) (λ c. true) ranges-few low))

    -- and few of these
    pub row-fits : (j : ℕ) → j < length (get_or rows c d).ranges.now → Fits w64 (j * 2)
    row-fits j h = omega (arith, row-few)

-- a class's name is found again, whatever follows
classes-back : (m : List ℕ) → each 12 0 (λ c. find_class 12 0 (class_name c ++ (58 ∷ 93 ∷ m))) ≡ each 12 0 (λ c. some c)
unfolding each find_class same_bytes class_names
classes-back m = refl

pub class_back : (c : ℕ) (m : List ℕ) → c < 12 → find_class 12 0 (class_name c ++ (58 ∷ 93 ∷ m)) ≡ some c
class_back c m h = each_same 12 c (λ c. find_class 12 0 (class_name c ++ (58 ∷ 93 ∷ m))) (λ c. some c) (classes-back m) h

-- no class is found where nothing is
pub class-none : find_class 12 0 [] ≡ none
unfolding find_class same_bytes class_names
class-none = refl

-- a class's name holds bytes of a pattern
names-clean : each 12 0 (λ c. is_line (class_name c)) ≡ each 12 0 (λ c. true)
unfolding each class_names
names-clean = refl

pub name-clean : (c : ℕ) → c < 12 → is_line (class_name c) ≡ true
name-clean c h = each_same 12 c (λ c. is_line (class_name c)) (λ c. true) names-clean h
