-- Laws of what is kept of a run: it tells the depths, it is joined as runs follow each other, and it comes back from its words.
use Prim.Native.Nat.{ℕ, zero, suc, ◌+◌, ◌-◌, ◌*◌, ◌^◌, ◌%◌, ◌<◌, ◌≤◌}
use native.Mathlib.Omega.{arith}
use mathlib.Core.Path.{◌≡◌, refl, sym, ap, ◌∙◌}
use mathlib.Core.Bool.{Bool, true, false, cond}
use mathlib.Core.List.{List, [], ◌∷◌, ◌++◌}
use lib.Dec.{eqb}
use lib.ListN.{length, get_or, take, drop, length-append}
use lib.Seq.{take-length, get_or-drop}
use lib.IntN.{ℤ, pos, sub_ℕ, nat_abs, ◌+ℤ◌}
use lib.Signed.{le_z}
use borrow.Author.Tests.{le-leb, lt-leb, leb-true, eqb-true, eqb-false}
use Rattle.runs.proofs.Tests.{by-test, either}
use Rattle.depth.specs.declared.unmatched.Unmatched.{Unmatched}
use Rattle.depth.specs.Depths.{occurrences, depth_after, lower, lowest_to, lowest_depth}
use Rattle.depth.specs.Answer.{longest, is_short, word, depth_words}
use Rattle.depth.specs.Promises.{closings_in, openings_in, counted, too_long, unmatched_in, Sized, matched, followed, repeatedly, times_unmatched, key_unmatched, loaded_at, words_of}
use Rattle.runs.specs.Kept.{times}
use Rattle.runs.proofs.KeptLaws.{times-one, times_more as run_more}
use Rattle.depth.proofs.Differences.{sub-above, sub-below, sub_same, sub-add, sub-le, le_out, le_refl, fallen, fall-size}
use Rattle.depth.proofs.DepthLaws.{occurs-append, occurs-most, occurs-front, depth-none, lowest-depth, lowest-splice}

-- a record of three equal numbers
pub same-unmatched : {a b c d e f : ℕ} → a ≡ d → b ≡ e → c ≡ f → ◌≡◌ {A = Unmatched} (record { length = a; closings = b; openings = c }) (record { length = d; closings = e; openings = f })
same-unmatched g h k = rw (g, h, k) refl

-- The depths of a run by its unmatched keys.
module _ (opening closing : ℕ) (w : List ℕ) where
  at-start : le_z (lowest_depth opening closing w) (pos 0) ≡ true
  at-start = ap (le_z (lowest_depth opening closing w)) (sym (depth-none opening closing)) ∙ (lowest-depth opening closing w).under 0 (omega arith)

  pub lowest-closings : lowest_depth opening closing w ≡ sub_ℕ 0 (closings_in opening closing w)
  lowest-closings = fallen (lowest_depth opening closing w) at-start

  -- as many as there are closings at the most, and at least those that are more than the openings
  pub closings-most : closings_in opening closing w ≤ occurrences closing w
  unfolding depth_after
  closings-most =
      let low = lowest-depth opening closing w in
      let part = take low.place w in
      let there : le_z (sub_ℕ (occurrences opening part) (occurrences closing part)) (sub_ℕ 0 (closings_in opening closing w)) ≡ true = ap (λ (z : ℤ). le_z z (sub_ℕ 0 (closings_in opening closing w))) (sym low.there ∙ lowest-closings) ∙ le_refl (sub_ℕ 0 (closings_in opening closing w)) in
      omega (arith, le_out (occurrences opening part) (occurrences closing part) 0 (closings_in opening closing w) there, occurs-front closing low.place w)

  pub closings-least : occurrences closing w ≤ occurrences opening w + closings_in opening closing w
  unfolding depth_after
  closings-least =
      let low = lowest-depth opening closing w in
      let last : le_z (lowest_depth opening closing w) (depth_after opening closing w) ≡ true = ap (λ (v : List ℕ). le_z (lowest_depth opening closing w) (depth_after opening closing v)) (sym (take-length w)) ∙ low.under (length w) (omega arith) in
      let there : le_z (sub_ℕ 0 (closings_in opening closing w)) (sub_ℕ (occurrences opening w) (occurrences closing w)) ≡ true = ap (λ (z : ℤ). le_z z (depth_after opening closing w)) (sym lowest-closings) ∙ last in
      omega (arith, le_out 0 (closings_in opening closing w) (occurrences opening w) (occurrences closing w) there)

  pub end-openings : depth_after opening closing w ≡ sub_ℕ (openings_in opening closing w) (closings_in opening closing w)
  unfolding depth_after
  end-openings =
      sub_same (occurrences opening w) (occurrences closing w) (openings_in opening closing w) (closings_in opening closing w) (omega (arith, closings-least))

  -- neither is longer than the run
  closings-short : closings_in opening closing w ≤ length w
  closings-short = omega (arith, closings-most, occurs-most closing w)

  openings-short : openings_in opening closing w ≤ length w
  openings-short = omega (arith, closings-most, occurs-most opening w)

  short-sized : Sized (counted opening closing w)
  short-sized = record { closed = closings-short; opened = openings-short }

  pub run_short : is_short w ≡ true → unmatched_in opening closing w ≡ counted opening closing w
  unfolding unmatched_in
  run_short h = rw h refl

  pub run_long : is_short w ≡ false → unmatched_in opening closing w ≡ too_long
  unfolding unmatched_in
  run_long h = rw h refl

  pub run-sized : Sized (unmatched_in opening closing w)
  unfolding unmatched_in
  run-sized = go (is_short w)
    where
      go : (t : Bool) → Sized (cond t (counted opening closing w) too_long)
      go true = short-sized
      go false = record { closed = omega arith; opened = omega arith }

-- Runs one behind the other: openings of the first meet closings of the second.

-- what is joined of two, by their lengths
module _ (a b : Unmatched) where
  pub joined-over : longest < a.length + b.length → too_long ≡ followed a b
  unfolding followed
  joined-over h = rw (lt-leb (a.length + b.length) longest h) refl

  pub joined-fits : a.length + b.length ≤ longest → matched a b ≡ followed a b
  unfolding followed
  joined-fits h = rw (le-leb (a.length + b.length) longest h) refl

-- the lower of minus a, and of r less the sum of a and b
lower-falls : (a b r : ℕ) → nat_abs (lower (sub_ℕ 0 a) (sub_ℕ r (a + b))) ≡ a + (b - r)
unfolding lower
lower-falls a b r = either r b deep met
  where
    deep : r < b → nat_abs (cond (le_z (sub_ℕ 0 a) (sub_ℕ r (a + b))) (sub_ℕ 0 a) (sub_ℕ r (a + b))) ≡ a + (b - r)
    deep h = rw (sub-le 0 a r (a + b), lt-leb (0 + (a + b)) (r + a) (omega arith), fall-size r (a + b) (omega arith)) (omega arith)

    met : b ≤ r → nat_abs (cond (le_z (sub_ℕ 0 a) (sub_ℕ r (a + b))) (sub_ℕ 0 a) (sub_ℕ r (a + b))) ≡ a + (b - r)
    met h = rw (sub-le 0 a r (a + b), le-leb (0 + (a + b)) (r + a) (omega arith), fall-size 0 a (omega arith)) (omega arith)

module _ (opening closing : ℕ) (u v : List ℕ) where
  closings-append : closings_in opening closing (u ++ v) ≡ closings_in opening closing u + (closings_in opening closing v - openings_in opening closing u)
  closings-append = ap nat_abs (lowest-splice opening closing u v ∙ told (closings_in opening closing u) (openings_in opening closing u) (closings_in opening closing v) (lowest-closings opening closing u) (end-openings opening closing u) (lowest-closings opening closing v)) ∙ lower-falls (closings_in opening closing u) (closings_in opening closing v) (openings_in opening closing u)
    where
      told : (a r b : ℕ) → lowest_depth opening closing u ≡ sub_ℕ 0 a → depth_after opening closing u ≡ sub_ℕ r a → lowest_depth opening closing v ≡ sub_ℕ 0 b
          → lower (lowest_depth opening closing u) (depth_after opening closing u +ℤ lowest_depth opening closing v) ≡ lower (sub_ℕ 0 a) (sub_ℕ r (a + b))
      told a r b e f g =
          let none : r + 0 ≡ r = omega arith in
          rw (e, f, g) (ap (lower (sub_ℕ 0 a)) (sub-add r a 0 b ∙ ap (λ (n : ℕ). sub_ℕ n (a + b)) none))

  openings-append : openings_in opening closing (u ++ v) ≡ openings_in opening closing v + (openings_in opening closing u - closings_in opening closing v)
  openings-append =
      rw (occurs-append opening u v, occurs-append closing u v)
      (omega (arith, closings-append, closings-least opening closing u, closings-least opening closing v, closings-most opening closing u, closings-most opening closing v))

  -- what is kept of two runs is too long together where they are
  kept-over : longest < length u + length v → longest < (unmatched_in opening closing u).length + (unmatched_in opening closing v).length
  unfolding unmatched_in
  kept-over h = go (is_short u) (is_short v)
    where
      go : (s t : Bool) → longest < (cond s (counted opening closing u) too_long).length + (cond t (counted opening closing v) too_long).length
      go true true = h
      go true false = omega arith
      go false t = omega arith

  -- what is kept is joined so
  pub run-append : unmatched_in opening closing (u ++ v) ≡ followed (unmatched_in opening closing u) (unmatched_in opening closing v)
  run-append = either longest (length u + length v) over fits
    where
      over : longest < length u + length v → unmatched_in opening closing (u ++ v) ≡ followed (unmatched_in opening closing u) (unmatched_in opening closing v)
      over h = run_long opening closing (u ++ v) (lt-leb (length (u ++ v)) longest (omega (arith, length-append u v))) ∙ joined-over (unmatched_in opening closing u) (unmatched_in opening closing v) (kept-over h)

      fits : length u + length v ≤ longest → unmatched_in opening closing (u ++ v) ≡ followed (unmatched_in opening closing u) (unmatched_in opening closing v)
      fits h =
          rw (
            run_short opening closing u (le-leb (length u) longest (omega arith)),
            run_short opening closing v (le-leb (length v) longest (omega arith)),
            run_short opening closing (u ++ v) (le-leb (length (u ++ v)) longest (omega (arith, length-append u v))),
          )
          (same-unmatched (length-append u v) closings-append openings-append ∙ joined-fits (counted opening closing u) (counted opening closing v) h)

-- A run n times.

-- what is kept of n times, by their length
module _ (n : ℕ) (u : Unmatched) where
  pub times-over : longest < u.length * n → too_long ≡ times_unmatched n u
  unfolding times_unmatched
  times-over h = rw (lt-leb (u.length * n) longest h) refl

  pub times-fits : u.length * n ≤ longest → repeatedly n u ≡ times_unmatched n u
  unfolding times_unmatched
  times-fits h = rw (le-leb (u.length * n) longest h) refl

-- one pass before k + 1 others: the keys of either sort that stay without a partner
more-first : (c o k : ℕ) → c + ((c + (c - o) * k) - o) ≡ c + (c - o) * (k + 1)
more-first c o k = either o c less more
  where
    less : o < c → c + ((c + (c - o) * k) - o) ≡ c + (c - o) * (k + 1)
    less h = let d = c - o in let e : c ≡ o + d = omega arith in omega arith

    more : c ≤ o → c + ((c + (c - o) * k) - o) ≡ c + (c - o) * (k + 1)
    more h = let none : c - o ≡ 0 = omega arith in rw none (omega arith)

more-second : (c o k : ℕ) → (o + (o - c) * k) + (o - (c + (c - o) * k)) ≡ o + (o - c) * (k + 1)
more-second c o k = either o c less more
  where
    less : o < c → (o + (o - c) * k) + (o - (c + (c - o) * k)) ≡ o + (o - c) * (k + 1)
    less h = let none : o - c ≡ 0 = omega arith in rw none (omega arith)

    more : c ≤ o → (o + (o - c) * k) + (o - (c + (c - o) * k)) ≡ o + (o - c) * (k + 1)
    more h = let none : c - o ≡ 0 = omega arith in rw none (omega arith)

-- one pass more
module _ (u : Unmatched) (k : ℕ) where
  times_more : u.length * (k + 1) ≤ longest → followed u (times_unmatched (k + 1) u) ≡ times_unmatched (k + 2) u
  times_more h = either longest (u.length * (k + 2)) over fits
    where
      rest : k + 1 - 1 ≡ k
      rest = omega arith

      last : k + 2 - 1 ≡ k + 1
      last = omega arith

      over : longest < u.length * (k + 2) → followed u (times_unmatched (k + 1) u) ≡ times_unmatched (k + 2) u
      over l = ap (followed u) (sym (times-fits (k + 1) u h)) ∙ sym (joined-over u (repeatedly (k + 1) u) (omega arith)) ∙ times-over (k + 2) u l

      fits : u.length * (k + 2) ≤ longest → followed u (times_unmatched (k + 1) u) ≡ times_unmatched (k + 2) u
      fits l =
          ap (followed u) (sym (times-fits (k + 1) u h))
          ∙ sym (joined-fits u (repeatedly (k + 1) u) (omega arith))
          ∙ same-unmatched (omega arith) (rw (rest, last) (more-first u.closings u.openings k)) (rw (rest, last) (more-second u.closings u.openings k))
          ∙ times-fits (k + 2) u l

  times-beyond : longest < u.length * (k + 1) → followed u (times_unmatched (k + 1) u) ≡ times_unmatched (k + 2) u
  times-beyond l = ap (followed u) (sym (times-over (k + 1) u l)) ∙ sym (joined-over u too_long (omega arith)) ∙ times-over (k + 2) u (omega arith)

  times-step : followed u (times_unmatched (k + 1) u) ≡ times_unmatched (k + 2) u
  times-step = either longest (u.length * (k + 1)) times-beyond times_more

module _ (opening closing : ℕ) (w : List ℕ) where
  once-kept : unmatched_in opening closing w ≡ times_unmatched 1 (unmatched_in opening closing w)
  once-kept = by-test (is_short w) short long
    where
      short : is_short w ≡ true → unmatched_in opening closing w ≡ times_unmatched 1 (unmatched_in opening closing w)
      short e =
          let room = leb-true (length w) longest e in
          rw (run_short opening closing w e)
          (same-unmatched (omega arith) (omega arith) (omega arith) ∙ times-fits 1 (counted opening closing w) (omega arith))

      long : is_short w ≡ false → unmatched_in opening closing w ≡ times_unmatched 1 (unmatched_in opening closing w)
      long e = rw (run_long opening closing w e) (times-over 1 too_long (omega arith))

  passes : (k : ℕ) → unmatched_in opening closing (times (k + 1) w) ≡ times_unmatched (k + 1) (unmatched_in opening closing w)
  passes zero = ap (unmatched_in opening closing) (times-one w) ∙ once-kept
  passes (suc k) =
      let e : suc k + 1 ≡ k + 1 + 1 = omega arith in
      let f : k + 2 ≡ suc k + 1 = omega arith in
      ap (λ (n : ℕ). unmatched_in opening closing (times n w)) e
      ∙ ap (unmatched_in opening closing) (run_more (k + 1) w)
      ∙ run-append opening closing w (times (k + 1) w)
      ∙ ap (followed (unmatched_in opening closing w)) (passes k)
      ∙ times-step (unmatched_in opening closing w) k
      ∙ ap (λ (n : ℕ). times_unmatched n (unmatched_in opening closing w)) f

  -- the run n times
  pub run-times : (n : ℕ) → 1 ≤ n → times_unmatched n (unmatched_in opening closing w) ≡ unmatched_in opening closing (times n w)
  run-times n h = let e : n - 1 + 1 ≡ n = omega arith in sym (rw e at (passes (n - 1)))

-- No keys, and one key.
pub run_none : (opening closing : ℕ) → unmatched_in opening closing [] ≡ record { length = 0; closings = 0; openings = 0 }
unfolding unmatched_in lowest_depth lowest_to depth_after occurrences
run_none opening closing = refl

pub run-key : (opening closing : ℕ) → eqb opening closing ≡ false → (k : ℕ) → unmatched_in opening closing (k ∷ []) ≡ key_unmatched opening closing k
unfolding unmatched_in lowest_depth lowest_to lower depth_after occurrences key_unmatched
run-key opening closing apart k = go (eqb k opening) (eqb k closing) refl refl
  where
    go : (s t : Bool) → eqb k opening ≡ s → eqb k closing ≡ t → ◌≡◌ {A = Unmatched}
        (record { length = 1; closings = nat_abs (cond (le_z (sub_ℕ 0 0) (sub_ℕ (cond s 1 0 + 0) (cond t 1 0 + 0))) (sub_ℕ 0 0) (sub_ℕ (cond s 1 0 + 0) (cond t 1 0 + 0))); openings = ((cond s 1 0 + 0) + nat_abs (cond (le_z (sub_ℕ 0 0) (sub_ℕ (cond s 1 0 + 0) (cond t 1 0 + 0))) (sub_ℕ 0 0) (sub_ℕ (cond s 1 0 + 0) (cond t 1 0 + 0)))) - (cond t 1 0 + 0) })
        (record { length = 1; closings = cond t 1 0; openings = cond s 1 0 })
    go true true e f = absurd (eqb-false opening closing apart (sym (eqb-true k opening e) ∙ eqb-true k closing f))
    go true false e f = refl
    go false true e f = refl
    go false false e f = refl

-- Words.

word-above : (a b : ℕ) → b ≤ a → word (sub_ℕ a b) ≡ a - b
word-above a b h = ap word (sub-above a b h)

word_below : (a b : ℕ) → a < b → word (sub_ℕ a b) ≡ 2 ^ 64 - (b - a)
word_below a b h = let same : suc (b - suc a) ≡ b - a = omega arith in ap word (sub-below a b h) ∙ ap (λ (n : ℕ). 2 ^ 64 - n) same

-- a difference that wraps is that word
pub word-wraps : (a b : ℕ) → a < 2 ^ 64 → b < 2 ^ 64 → (a + (2 ^ 64 - b)) % 2 ^ 64 ≡ word (sub_ℕ a b)
word-wraps a b g h = either a b (λ l. rw (word_below a b l) (omega arith)) (λ l. rw (word-above a b l) (omega arith))

-- small numbers come back from the words of their differences
closings-back : (c : ℕ) → c ≤ longest → word (sub_ℕ 0 (word (sub_ℕ 0 c))) ≡ c
closings-back c h = either 0 c some none
  where
    some : 0 < c → word (sub_ℕ 0 (word (sub_ℕ 0 c))) ≡ c
    some l = rw (word_below 0 c l, word_below 0 (2 ^ 64 - (c - 0)) (omega arith)) (omega arith)

    none : c ≤ 0 → word (sub_ℕ 0 (word (sub_ℕ 0 c))) ≡ c
    none l = let zero_is : c ≡ 0 = omega arith in rw zero_is refl

openings-back : (o c : ℕ) → o ≤ longest → c ≤ longest → word (sub_ℕ (word (sub_ℕ o c)) (word (sub_ℕ 0 c))) ≡ o
openings-back o c g h = either 0 c (λ l. either o c (fewer l) (more l)) none
  where
    fewer : 0 < c → o < c → word (sub_ℕ (word (sub_ℕ o c)) (word (sub_ℕ 0 c))) ≡ o
    fewer l m = rw (word_below 0 c l, word_below o c m, word-above (2 ^ 64 - (c - o)) (2 ^ 64 - (c - 0)) (omega arith)) (omega arith)

    more : 0 < c → c ≤ o → word (sub_ℕ (word (sub_ℕ o c)) (word (sub_ℕ 0 c))) ≡ o
    more l m = rw (word_below 0 c l, word-above o c m, word_below (o - c) (2 ^ 64 - (c - 0)) (omega arith)) (omega arith)

    none : c ≤ 0 → word (sub_ℕ (word (sub_ℕ o c)) (word (sub_ℕ 0 c))) ≡ o
    none l =
        let zero_is : c ≡ 0 = omega arith in
        rw (zero_is, word-above o 0 (omega arith), word-above (o - 0) 0 (omega arith)) (omega arith)

-- what is kept, from its words
pub loaded-from : (u : Unmatched) → u.closings ≤ longest → u.openings ≤ longest → (work rest : List ℕ) (at : ℕ) → drop at work ≡ words_of u ++ rest → loaded_at work at ≡ u
loaded-from u g h work rest at e =
    same-unmatched first (rw third (closings-back u.closings g)) (rw (second, third) (openings-back u.openings u.closings h g))
  where
    word_at : (i : ℕ) → get_or work (at + i) 0 ≡ get_or (words_of u ++ rest) i 0
    word_at i = sym (get_or-drop at work i 0) ∙ ap (λ (l : List ℕ). get_or l i 0) e

    first : get_or work at 0 ≡ u.length
    first = let none : at ≡ at + 0 = omega arith in ap (λ (n : ℕ). get_or work n 0) none ∙ word_at 0

    second : get_or work (at + 1) 0 ≡ word (sub_ℕ u.openings u.closings)
    second = word_at 1

    third : get_or work (at + 2) 0 ≡ word (sub_ℕ 0 u.closings)
    third = word_at 2

module _ (opening closing : ℕ) (w : List ℕ) where
  -- the words of a run are those of what is kept of it
  pub run-words : words_of (unmatched_in opening closing w) ≡ depth_words opening closing w
  unfolding unmatched_in depth_words
  run-words = go (is_short w)
    where
      go : (t : Bool) → words_of (cond t (counted opening closing w) too_long)
          ≡ cond t (length w ∷ word (depth_after opening closing w) ∷ word (lowest_depth opening closing w) ∷ []) ((2 ^ 64 - 1) ∷ 0 ∷ 0 ∷ [])
      go true = ap (λ (z : ℤ). length w ∷ word z ∷ word (sub_ℕ 0 (closings_in opening closing w)) ∷ []) (sym (end-openings opening closing w)) ∙ ap (λ (z : ℤ). length w ∷ word (depth_after opening closing w) ∷ word z ∷ []) (sym (lowest-closings opening closing w))
      go false = refl

  pub words-wide : length (depth_words opening closing w) ≡ 3
  words-wide = ap length (sym run-words)

  small : (is_short w ≡ true) → (closings_in opening closing w ≤ longest) × (openings_in opening closing w ≤ longest)
  small e = let room = leb-true (length w) longest e in (omega (arith, closings-short opening closing w), omega (arith, openings-short opening closing w))

  pub run_small : ((unmatched_in opening closing w).closings ≤ longest) × ((unmatched_in opening closing w).openings ≤ longest)
  unfolding unmatched_in
  run_small = go (is_short w) refl
    where
      go : (t : Bool) → is_short w ≡ t → ((cond t (counted opening closing w) too_long).closings ≤ longest) × ((cond t (counted opening closing w) too_long).openings ≤ longest)
      go true e = small e
      go false e = (omega arith, omega arith)

  -- so it comes back from them
  pub run-loaded : (work rest : List ℕ) (at : ℕ) → drop at work ≡ depth_words opening closing w ++ rest → loaded_at work at ≡ unmatched_in opening closing w
  run-loaded work rest at e = loaded-from (unmatched_in opening closing w) run_small.0 run_small.1 work rest at (e ∙ ap (λ (l : List ℕ). l ++ rest) (sym run-words))
