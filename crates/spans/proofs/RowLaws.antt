-- Laws of rows and sets of states.
use Prim.Native.Nat.{ℕ, ◌+◌, ◌*◌, ◌%◌, ◌^◌, ◌<◌, ◌≤◌}
use native.Mathlib.Omega.{arith}
use native.Mathlib.Nat.{mod-eq_of_lt}
use mathlib.Core.Path.{◌≡◌, refl, sym, ap, ◌∙◌}
use mathlib.Core.Bool.{Bool, true, false, cond, ◌&&◌, and-false}
use mathlib.Core.List.{List}
use lib.Dec.{ltb, eqb}
use lib.Pow.{pow-lt}
use lib.ListN.{length, get_or, set, take, replicate, get_or-eq_default}
use lib.Seq.{ext_get_or}
use Rattle.std.proofs.lemmas.List.{get_or-take, length-take-le}
use lib.Bits.{bit_or}
use mir.Val.{Fits}
use mir.Syntax.{w64}
use borrow.Author.Tests.{ltb-true, ltb-false, lt-ltb, le-ltb}
use Rattle.runs.specs.Counts.{count_below, sum_below}
use Rattle.runs.proofs.CountLaws.{count-le, sum_more, sum-none}
use Rattle.runs.proofs.Tests.{either}
use Rattle.stateset.specs.Set.{bit, word, any_below, image_of, common}
use Rattle.stateset.proofs.Sets.{bit-zero, bit_word, word-ext, word-high, word-one, word-unique}
use Rattle.stateset.proofs.Some.{any-ext, any-widen}
use Rattle.stateset.proofs.Images.{bit-image}
use Rattle.stateset.proofs.Counts.{count_word}
use Rattle.stateset.proofs.Tabled.{tabled-length, tabled-at, tabled-same}
use Rattle.stateset.proofs.Gathering.{begun, begun-none, begun_more, gathered_none, gathered-more}
use Rattle.spans.specs.Spans.{rows_of}
use Rattle.spans.specs.Joining.{state_count, onward}

-- How many states there are.
pub states-few : (s : ℕ) → state_count s ≤ 32
states-few s = go (ltb s 32) refl
  where
    go : (b : Bool) → ltb s 32 ≡ b → cond b s 32 ≤ 32
    go true e = let h : s < 32 = ltb-true s 32 e in omega arith
    go false e = omega arith

pub states-all : (s : ℕ) → s ≤ 32 → state_count s ≡ s
states-all s h = go (ltb s 32) refl
  where
    go : (b : Bool) → ltb s 32 ≡ b → cond b s 32 ≡ s
    go true e = refl
    go false e = omega (arith, ltb-false s 32 e)

-- the row of a state that there is
pub row_of : (s : ℕ) (X : ℕ → ℕ → Bool) (q : ℕ) → q < s → s ≤ 32 → get_or (rows_of s X) q 0 ≡ word s (X q)
row_of s X q h l = tabled-at (λ q. cond (ltb q s) (word s (X q)) 0) 32 q (omega arith) ∙ rw (lt-ltb q s h) refl

-- there are 32 rows, and those from s on are empty
pub rows_long_lem : (s : ℕ) (X : ℕ → ℕ → Bool) → length (rows_of s X) ≡ 32
rows_long_lem s X = tabled-length (λ q. cond (ltb q s) (word s (X q)) 0) 32 0

pub row-above : (s : ℕ) (X : ℕ → ℕ → Bool) (q : ℕ) → s ≤ q → get_or (rows_of s X) q 0 ≡ 0
row-above s X q h =
    either q 32
    (λ l. tabled-at (λ q. cond (ltb q s) (word s (X q)) 0) 32 q l ∙ rw (le-ltb q s h) refl)
    (λ g. get_or-eq_default (rows_of s X) 0 (rw (rows_long_lem s X) g))

-- 32 rows of states below s, with none from s on, are told by their states
pub rows_told : (s : ℕ) (rows : List ℕ) → s ≤ 32 → length rows ≡ 32 → ((q : ℕ) → q < s → get_or rows q 0 < 2 ^ s) → ((q : ℕ) → s ≤ q → q < 32 → get_or rows q 0 ≡ 0) → rows ≡ rows_of s (λ q. bit (get_or rows q 0))
rows_told s rows few long below above =
    ext_get_or 0 rows (rows_of s (λ q. bit (get_or rows q 0))) (long ∙ sym (rows_long_lem s (λ q. bit (get_or rows q 0))))
    (λ q l.
    either q s
    (λ h. word-unique s (get_or rows q 0) (bit (get_or rows q 0)) (below q h) (λ p k. refl) ∙ sym (row_of s (λ q. bit (get_or rows q 0)) q h few))
    (λ g. above q g (rw long at l) ∙ sym (row-above s (λ q. bit (get_or rows q 0)) q g)))

-- rows with the same states are the same
pub rows_same : (s : ℕ) (X Y : ℕ → ℕ → Bool) → ((q p : ℕ) → q < s → p < s → X q p ≡ Y q p) → rows_of s X ≡ rows_of s Y
rows_same s X Y e = tabled-same (λ q. cond (ltb q s) (word s (X q)) 0) (λ q. cond (ltb q s) (word s (Y q)) 0) 32 0 (λ q g h. go q (ltb q s) refl)
  where
    go : (q : ℕ) (b : Bool) → ltb q s ≡ b → cond b (word s (X q)) 0 ≡ cond b (word s (Y q)) 0
    go q true i = word-ext s (X q) (Y q) (λ p l. e q p (ltb-true q s i) l)
    go q false i = refl

-- Words and rows by the sets that they hold, below s: whether two meet, and what rows lead to.
module _ (s x : ℕ) (X : ℕ → Bool) (e : (r : ℕ) → r < s → bit x r ≡ X r) where
  pub common-told : (y : ℕ) (Y : ℕ → Bool) → ((r : ℕ) → r < s → bit y r ≡ Y r) → common s x y ≡ any_below s (λ r. X r && Y r)
  common-told y Y f = any-ext s (λ r. bit x r && bit y r) (λ r. X r && Y r) (λ r l. rw (e r l, f r l) refl)

  pub onward-told : (Y : ℕ → ℕ → Bool) (p : ℕ) → s ≤ 32 → p < s → onward s x (rows_of s Y) p ≡ any_below s (λ r. X r && Y r p)
  onward-told Y p few h =
      any-ext s (λ r. bit x r && bit (get_or (rows_of s Y) r 0) p) (λ r. X r && Y r p)
      (λ r l. rw (e r l, row_of s Y r l few, bit_word s (Y r) p h) refl)

-- Rows, one after the other: those of the first q states are made.
module _ (s : ℕ) (X : ℕ → ℕ → Bool) where
  abbrev pub Building : List ℕ → ℕ → Type 0
  Building rows q = rows ≡ begun (λ k. word s (X k)) 32 q

  pub building-none : Building (replicate 32 0) 0
  building-none = begun-none (λ k. word s (X k)) 32

  pub building-more : {rows : List ℕ} {q x : ℕ} → Building rows q → q < s → s ≤ 32 → x ≡ word s (X q) → Building (set rows q x) (q + 1)
  building-more {rows} {q} i h l f = rw (i, f) (begun_more (λ k. word s (X k)) 32 q (omega arith))

  pub building-done : {rows : List ℕ} {q : ℕ} → Building rows q → s ≤ q → q ≤ s → rows ≡ rows_of s X
  building-done {rows} {q} i g h = let d : q ≡ s = omega arith in i ∙ ap (begun (λ k. word s (X k)) 32) d

-- the empty run's row of a state
pub own_row : (s q : ℕ) {x : ℕ} → q < s → s ≤ 32 → x ≡ 2 ^ q % 2 ^ 64 → x ≡ word s (λ p. eqb q p)
own_row s q h l e = let low : q < 64 = omega arith in e ∙ mod-eq_of_lt (pow-lt low) ∙ word-one s q h

-- Sets of states below s.
module _ (s x : ℕ) (h : s ≤ 32) where
  -- two sets have one in common
  pub meeting-made : (y : ℕ) {w : ℕ} {r : Bool} → w ≡ word s (bit x) → r ≡ common 64 w y → r ≡ common s x y
  meeting-made y w r =
      rw (r, w)
      (any-widen s 64 (λ q. bit (word s (bit x)) q && bit y q) (omega arith) (λ q k. rw (word-high s (bit x) q k))
      ∙ any-ext s (λ q. bit (word s (bit x)) q && bit y q) (λ q. bit x q && bit y q) (λ q k. rw (bit_word s (bit x) q k)))

  -- how many there are
  pub size-made : {w n : ℕ} → w ≡ word s (bit x) → n ≡ count_below 64 (bit w) → n ≡ count_below s (bit x)
  size-made e f = f ∙ rw e (count_word s (bit x) (omega arith))

  -- those that rows reach
  pub onward-made : (rows : List ℕ) {w i r : ℕ} → w ≡ word s (bit x) → i ≡ image_of rows w → r ≡ word s (bit i) → r ≡ word s (onward s x rows)
  onward-made rows w i r = rw (r, i, w) (word-ext s (bit (image_of rows (word s (bit x)))) (onward s x rows) same)
    where
      step : ℕ → ℕ → Bool
      step p q = bit (word s (bit x)) q && bit (get_or rows q 0) p

      far : (p : ℕ) (b : Bool) → ltb (length rows) s ≡ b → any_below (length rows) (step p) ≡ any_below s (step p)
      far p true e =
          let l = ltb-true (length rows) s e in
          sym (any-widen (length rows) s (step p) (omega arith) (λ q k. rw (get_or-eq_default rows 0 k, bit-zero p) (and-false (bit (word s (bit x)) q))))
      far p false e = any-widen s (length rows) (step p) (ltb-false (length rows) s e) (λ q k. rw (word-high s (bit x) q k))

      same : (p : ℕ) → p < s → bit (image_of rows (word s (bit x))) p ≡ onward s x rows p
      same p g =
          bit-image rows (word s (bit x)) p (omega arith)
          ∙ far p (ltb (length rows) s) refl
          ∙ any-ext s (step p) (λ q. bit x q && bit (get_or rows q 0) p) (λ q k. rw (bit_word s (bit x) q k))

-- The states whose row has a state of y, one after the other: those below q are found.
module _ (s : ℕ) (rows : List ℕ) (y : ℕ) where
  -- whether a state's row has one
  abbrev meets_row : ℕ → Bool
  meets_row k = common s (get_or rows k 0) y

  abbrev pub Gathering : ℕ → ℕ → Type 0
  Gathering heads q = heads ≡ word q meets_row

  pub gathering-none : Gathering 0 0
  gathering-none = gathered_none meets_row

  pub gathering-more : {heads q v o r : ℕ} {b : Bool} → Gathering heads q → q < s → s ≤ 32 → b ≡ common s (get_or rows q 0) y → o ≡ 2 ^ q % 2 ^ 64 → v ≡ cond b o 0 → r ≡ bit_or heads v → Gathering r (q + 1)
  gathering-more {q = q} i h l e f g j =
      let low : q < 64 = omega arith in
      rw (j, g, f, e, i, mod-eq_of_lt (pow-lt low)) (gathered-more meets_row q)

-- The states of rows, one row after the other: those of the first q rows are counted. A row has no more than 32.
pub record Summing (s : ℕ) (rows : List ℕ) (sum q : ℕ) : Type 0 where
  pub small : sum ≤ q * 32
  pub counted : sum ≡ sum_below q (λ k. count_below s (bit (get_or rows k 0)))

module _ (s : ℕ) (rows : List ℕ) where
  pub summing-none : Summing s rows 0 0
  summing-none = record { small = omega arith; counted = sym (sum-none (λ k. count_below s (bit (get_or rows k 0)))) }

  -- s rows of 32 are gone through
  module _ (few : s ≤ 32) (long : length rows ≡ 32) {sum q : ℕ} (i : Summing s rows sum q) where
    part-long : length (take s rows) ≡ s
    part-long = length-take-le s rows (omega arith)

    module _ {k w : ℕ} (h : q < length (take s rows)) (e : w ≡ word s (bit (get_or (take s rows) q 0))) (f : k ≡ count_below 64 (bit w)) where
      this : k ≡ count_below s (bit (get_or rows q 0))
      this =
          let inside : q < s = omega (arith, part-long) in
          size-made s (get_or (take s rows) q 0) few e f ∙ ap (λ (x : ℕ). count_below s (bit x)) (get_or-take s rows q 0 inside)

      pub summing-room : Fits w64 (sum + k)
      summing-room = omega (arith, i.small, part-long, this, count-le s (bit (get_or rows q 0)))

      pub summing-more : Summing s rows (sum + k) (q + 1)
      summing-more =
          record {
            small = omega (arith, i.small, this, count-le s (bit (get_or rows q 0)));
            counted = rw (i.counted, this) (sym (sum_more q (λ k. count_below s (bit (get_or rows k 0)))));
          }

    pub summing-done : length (take s rows) ≤ q → q ≤ length (take s rows) → sum ≡ sum_below s (λ k. count_below s (bit (get_or rows k 0)))
    summing-done g h =
        let d : q ≡ s = omega (arith, part-long) in
        i.counted ∙ ap (λ (k : ℕ). sum_below k (λ k. count_below s (bit (get_or rows k 0)))) d
