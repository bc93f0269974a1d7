-- Lists that a loop changes entry by entry.
use Prim.Native.Nat.{ℕ, zero, suc, ◌+◌, ◌<◌, ◌≤◌}
use native.Mathlib.Omega.{arith}
use native.Mathlib.Nat.{not-suc-le-zero, add-zero, zero-add}
use mathlib.Core.Path.{◌≡◌, refl, sym, ap, ◌∙◌}
use mathlib.Core.Bool.{Bool, true, false, cond}
use mathlib.Core.List.{List, [], ◌∷◌}
use lib.Dec.{ltb, eqb}
use lib.ListN.{length, get_or, set, length-set}
use lib.Seq.{ext_get_or, get_or-set_same, get_or-set_other}
use borrow.Author.Tests.{lt-ltb, le-ltb, ltb-true, ltb-false, eqb-true, eqb-false}
use Rattle.brackets.specs.Answers.{map_with}

module _ {A : Type 0} where
  pub with-length : (f : ℕ → A → A) (j : ℕ) (l : List A) → length (map_with f j l) ≡ length l
  unfolding map_with
  with-length f j [] = refl
  with-length f j (x ∷ xs) = ap suc (with-length f (suc j) xs)

  with_at : (f : ℕ → A → A) (d : A) (j : ℕ) (l : List A) (k : ℕ) → k < length l → get_or (map_with f j l) k d ≡ f (j + k) (get_or l k d)
  unfolding map_with
  with_at f d j [] k h = absurd (not-suc-le-zero h)
  with_at f d j (x ∷ xs) zero h = rw add-zero
  with_at f d j (x ∷ xs) (suc k) h =
      let g : k < length xs = omega arith in
      let e : suc j + k ≡ j + suc k = omega arith in
      with_at f d (suc j) xs k g ∙ rw e

  -- the entry at a place
  pub with-get_or : (f : ℕ → A → A) (d : A) (l : List A) (k : ℕ) → k < length l → get_or (map_with f 0 l) k d ≡ f k (get_or l k d)
  with-get_or f d l k h = with_at f d 0 l k h ∙ rw zero-add

  -- the same change
  pub with-same : (f g : ℕ → A → A) → ((k : ℕ) (x : A) → f k x ≡ g k x) → (j : ℕ) (l : List A) → map_with f j l ≡ map_with g j l
  unfolding map_with
  with-same f g e j [] = refl
  with-same f g e j (x ∷ xs) = rw (e j x, with-same f g e (suc j) xs)

  -- one change after another
  pub with-with : (f g : ℕ → A → A) (j : ℕ) (l : List A) → map_with g j (map_with f j l) ≡ map_with (λ k x. g k (f k x)) j l
  unfolding map_with
  with-with f g j [] = refl
  with-with f g j (x ∷ xs) = rw (with-with f g (suc j) xs)

  -- no change
  pub with_none : (f : ℕ → A → A) → ((k : ℕ) (x : A) → f k x ≡ x) → (j : ℕ) (l : List A) → map_with f j l ≡ l
  unfolding map_with
  with_none f e j [] = refl
  with_none f e j (x ∷ xs) = rw (e j x, with_none f e (suc j) xs)

  -- the entries below i are changed
  abbrev pub partly : (ℕ → A → A) → ℕ → List A → List A
  partly f i l = map_with (λ k x. cond (ltb k i) (f k x) x) 0 l

  -- where a loop begins: what lies below i is not to be changed
  pub entry_first : (f : ℕ → A → A) (i : ℕ) (l : List A) → ((k : ℕ) (x : A) → k < i → f k x ≡ x) → l ≡ partly f i l
  entry_first f i l e = sym (with_none (λ k x. cond (ltb k i) (f k x) x) (λ k x. go k x (ltb k i) refl) 0 l)
    where
      go : (k : ℕ) (x : A) (t : Bool) → ltb k i ≡ t → cond t (f k x) x ≡ x
      go k x true h = e k x (ltb-true k i h)
      go k x false h = refl

  -- where it begins with the first entry
  pub entry-none : (f : ℕ → A → A) (l : List A) → l ≡ partly f 0 l
  entry-none f l = entry_first f 0 l (λ k x h. absurd (not-suc-le-zero h))

  module _ (d : A) (f : ℕ → A → A) (i : ℕ) (now before : List A) (inv : now ≡ partly f i before) where
    -- after a loop: what lies from i on is not to be changed
    pub entry-last : ((k : ℕ) (x : A) → i ≤ k → f k x ≡ x) → now ≡ map_with f 0 before
    entry-last e = inv ∙ with-same (λ k x. cond (ltb k i) (f k x) x) f (λ k x. go k x (ltb k i) refl) 0 before
      where
        go : (k : ℕ) (x : A) (t : Bool) → ltb k i ≡ t → cond t (f k x) x ≡ f k x
        go k x true h = refl
        go k x false h = sym (e k x (ltb-false k i h))

    -- a turn that stores
    pub entry_set : (v : A) → v ≡ f i (get_or now i d) → set now i v ≡ partly f (i + 1) before
    entry_set v e = ext_get_or d (set now i v) (partly f (i + 1) before) sizes (λ k h. at k (size k h) (eqb k i) refl)
      where
        size : (k : ℕ) → k < length (set now i v) → k < length before
        size k h = rw (length-set, inv, with-length) at h

        sizes : length (set now i v) ≡ length (partly f (i + 1) before)
        sizes = rw (length-set, inv, with-length, with-length)

        old : (k : ℕ) → k < length before → get_or now k d ≡ cond (ltb k i) (f k (get_or before k d)) (get_or before k d)
        old k h = rw inv (with-get_or (λ k x. cond (ltb k i) (f k x) x) d before k h)

        new : (k : ℕ) → k < length before → get_or (partly f (i + 1) before) k d ≡ cond (ltb k (i + 1)) (f k (get_or before k d)) (get_or before k d)
        new k h = with-get_or (λ k x. cond (ltb k (i + 1)) (f k x) x) d before k h

        other : (k : ℕ) (t : Bool) → ltb k i ≡ t → (k ≡ i → ⊥) → ltb k (i + 1) ≡ t
        other k true h n = let g : k < i = ltb-true k i h in lt-ltb k (i + 1) (omega arith)
        other k false h n = let g : i ≤ k = ltb-false k i h in le-ltb k (i + 1) (omega arith)

        at : (k : ℕ) → k < length before → (t : Bool) → eqb k i ≡ t → get_or (set now i v) k d ≡ get_or (partly f (i + 1) before) k d
        at k h true q =
            let same : k ≡ i = eqb-true k i q in
            let g : i < length now = rw (inv, with-length) (omega arith) in
            let here : i < i + 1 = omega arith in
            let low : ltb i i ≡ false = le-ltb i i (omega arith) in
            rw (new k h, same, get_or-set_same now i v d g, e, old i (rw (← same) h), low, lt-ltb i (i + 1) here)
        at k h false q =
            let n : k ≡ i → ⊥ = eqb-false k i q in
            rw (get_or-set_other now i k v d n, old k h, new k h, other k (ltb k i) refl n)
