-- There is one regrouped book: `regroup` makes its macros.
use Prim.Native.Nat.{ℕ, suc, ◌+◌, ◌-◌, ◌<◌, ◌≤◌}
use native.Mathlib.Omega.{arith}
use mathlib.Core.Path.{◌≡◌, refl, sym, ap, subst, ◌∙◌}
use mathlib.Core.List.{List, [], ◌∷◌, ◌++◌, map}
use lib.ListN.{length, get_or, set, take, drop, length-append, length-drop, length-set, length-map, get_or-append, get_or-map}
use lib.Seq.{length-take-le, get_or_at, get_or-append-add, get_or-set_same, get_or-set_other, get_or-take, get_or-drop, ext_get_or}
use lib.Dec.{eqb}
use borrow.Author.Tests.{eqb-true, eqb-false}
use Rattle.runs.proofs.Tests.{by-test, either}
use Rattle.book.specs.Format.{Macro}
use Rattle.regrouping.specs.Regrouping.{raised, raised_items, calling, Regrouped, inserted, regroup}
use Rattle.regrouping.proofs.Raising.{raised-low, raised-high}

-- one macro more, in front of place j
module _ (j : ℕ) (new : Macro) (l : List Macro) (room : j ≤ length l) where
  front : length (take j l) ≡ j
  front = length-take-le j l room

  insert-length : length (inserted j new l) ≡ suc (length l)
  insert-length = length-append (take j l) (new ∷ drop j l) ∙ rw (front, length-drop j l) (omega arith)

  insert-new : get_or (inserted j new l) j [] ≡ new
  insert-new = get_or_at (take j l) new (drop j l) [] j front

  insert-other : (i : ℕ) → get_or (inserted j new l) (raised j i) [] ≡ get_or l i []
  insert-other i =
      either i j
      (λ h. rw (raised-low j i h) (get_or-append (take j l) (new ∷ drop j l) [] i (rw front h) ∙ get_or-take j l i [] h))
      (λ h.
      let place : suc i ≡ length (take j l) + suc (i - j) = rw front (omega arith) in
      let back : j + (i - j) ≡ i = omega arith in
      rw (raised-high j i h, place) (get_or-append-add (take j l) (new ∷ drop j l) (suc (i - j)) [] ∙ get_or-drop j l (i - j) [] ∙ rw back refl))

-- The book that `regroup` makes is regrouped,
pub regroup-is : (ms : List Macro) (m j : ℕ) (xs ys zs : Macro) → m < length ms → get_or ms m [] ≡ xs ++ (ys ++ zs) → j ≤ m → Regrouped ms (regroup ms m j xs ys zs) m j xs ys zs
unfolding regroup
regroup-is ms m j xs ys zs h e low =
    record {
      inside = h;
      items = e;
      not_above = low;
      longer = insert-length j ys up room ∙ ap suc long;
      part = insert-new j ys up room;
      caller = rw (raised-high j m low) at (insert-other j ys up room m) ∙ get_or-set_same (map (raised_items j) ms) m (calling j xs zs) [] (rw (length-map ms (raised_items j)) h);
      others = λ i l other. insert-other j ys up room i ∙ get_or-set_other (map (raised_items j) ms) m i (calling j xs zs) [] other ∙ get_or-map (raised_items j) ms i [];
    }
  where
    up : List Macro
    up = set (map (raised_items j) ms) m (calling j xs zs)

    long : length up ≡ length ms
    long = length-set (map (raised_items j) ms) m (calling j xs zs) ∙ length-map ms (raised_items j)

    room : j ≤ length up
    room = omega (arith, long)

-- and there is no other.
module _ {ms ns : List Macro} {m j : ℕ} {xs ys zs : Macro} (r : Regrouped ms ns m j xs ys zs) where
  -- what holds of j, of m + 1 and of every other macro's number holds of all numbers
  pub by_number : (P : ℕ → Type 0) → P j → P (suc m) → ((i : ℕ) → i < length ms → (i ≡ m → ⊥) → P (raised j i)) → (k : ℕ) → k < length ns → P k
  by_number P new caller other k l =
      either k j
      (λ g. subst P (raised-low j k g) (other k (omega (arith, r.not_above, r.inside)) (λ e. omega (arith, r.not_above))))
      (λ g. either j k (λ f. higher (k - 1) (omega arith) (omega arith)) (λ f. let e : j ≡ k = omega arith in subst P e new))
    where
      higher : (i : ℕ) → suc i ≡ k → j ≤ i → P k
      higher i e g =
          by-test (eqb i m)
          (λ t. let same : m ≡ i = sym (eqb-true i m t) in subst P (ap suc same ∙ e) caller)
          (λ t. subst P (raised-high j i g ∙ e) (other i (omega (arith, r.longer)) (eqb-false i m t)))

  pub regroup-only : {os : List Macro} → Regrouped ms os m j xs ys zs → ns ≡ os
  regroup-only {os} s =
      ext_get_or [] ns os (r.longer ∙ sym s.longer)
      (by_number (λ k. get_or ns k [] ≡ get_or os k []) (r.part ∙ sym s.part) (r.caller ∙ sym s.caller) (λ i h e. r.others i h e ∙ sym (s.others i h e)))
