-- The ranges of a class, added one after another.
use Prim.Native.Nat.{ℕ, ◌+◌, ◌<◌, ◌≤◌}
use native.Mathlib.Omega.{arith}
use native.Mathlib.Numerals.{add-one}
use mathlib.Core.Path.{◌≡◌, refl, sym, ◌∙◌}
use mathlib.Core.Bool.{Bool, ◌||◌, or_assoc, or-false}
use mathlib.Core.List.{List, [], map}
use lib.ListN.{length, get_or, drop, drop_of_length-le, get_or-map, length-map}
use lib.Seq.{drop-cons}
use Rattle.brackets.specs.Form.{class, range}
use Rattle.brackets.specs.Sets.{Range, to, in_ranges, in_element}
use Rattle.brackets.specs.Answers.{map_with}
use Rattle.brackets.specs.Promises.{with_element, ranges_of}
use Rattle.brackets.proofs.Entries.{with-same, with-with, with_none}

-- an entry of a set, with some ranges added
unfoldable pub with_ranges : List Range → ℕ → Bool → Bool
with_ranges rs k x = x || in_ranges k rs

-- a set, with the ranges of a class from range j on added
abbrev pub added_from : ℕ → ℕ → List Bool → List Bool
added_from c j s = map_with (with_ranges (drop j (ranges_of c))) 0 s

pub ranges-first : (c : ℕ) (s : List Bool) → added_from c 0 s ≡ map_with (with_element (class c)) 0 s
unfolding with_ranges with_element in_element
ranges-first c s = refl

-- the pairs of the code's row, which are the ranges
module _ (c : ℕ) (pairs : List (ℕ × ℕ)) (is : map (λ r. to r.0 r.1) pairs ≡ ranges_of c) (j : ℕ) (now whole : List Bool) (inv : added_from c j now ≡ whole) where
  size : length pairs ≡ length (ranges_of c)
  size = rw (← is, length-map)

  pub ranges-on : (d : ℕ × ℕ) (after : List Bool) → j < length pairs → after ≡ map_with (with_element (range (get_or pairs j d).0 (get_or pairs j d).1)) 0 now → added_from c (j + 1) after ≡ whole
  unfolding with_ranges with_element in_element in_ranges
  ranges-on d after less g = rw g (with-with (with_element (range r.0 r.1)) (with_ranges (drop (j + 1) (ranges_of c))) 0 now ∙ with-same _ _ same 0 now ∙ inv)
    where
      r : ℕ × ℕ
      r = get_or pairs j d

      row : get_or (ranges_of c) j (to d.0 d.1) ≡ to r.0 r.1
      row = rw (← is) (get_or-map (λ (r : ℕ × ℕ). to r.0 r.1) pairs j d)

      inside : j < length (ranges_of c)
      inside = rw size at less

      same : (k : ℕ) (x : Bool) → with_ranges (drop (j + 1) (ranges_of c)) k (with_element (range r.0 r.1) k x) ≡ with_ranges (drop j (ranges_of c)) k x
      same k x = rw (add-one j, drop-cons (ranges_of c) j (to d.0 d.1) inside, row) (or_assoc x _ _)

  pub ranges-end : length pairs ≤ j → now ≡ whole
  unfolding with_ranges in_ranges
  ranges-end h =
      let g : length (ranges_of c) ≤ j = omega (arith, size) in
      sym (with_none (with_ranges []) (λ k x. or-false x) 0 now) ∙ rw (drop_of_length-le (ranges_of c) g) at inv
