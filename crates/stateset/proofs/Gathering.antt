-- Tables and sets that a loop makes, one entry or member after the other.
use Prim.Native.Nat.{ℕ, zero, suc, ◌+◌, ◌^◌, ◌<◌, ◌≤◌}
use native.Mathlib.Omega.{arith}
use native.Mathlib.Nat.{lt_of_lt_of_le}
use mathlib.Core.Path.{◌≡◌, refl, sym, ap, ◌∙◌}
use mathlib.Core.Bool.{Bool, true, false, cond, ◌&&◌, ◌||◌, or-false, and-false}
use mathlib.Core.List.{List}
use lib.Dec.{eqb, ltb}
use lib.Pow.{pow-lt, pow_pos}
use lib.ListN.{length, get_or, set, replicate, length-set}
use lib.Seq.{ext_get_or, get_or-set_same, get_or-set_other}
use lib.Bits.{bit_or, or_lt}
use borrow.Author.Tests.{ltb-true, ltb-false, lt-ltb, le-ltb, eqb-true, eqb-false, eq-eqb, ne_eqb}
use Rattle.stateset.specs.Set.{bit, word}
use Rattle.stateset.specs.Tabled.{tabled}
use Rattle.stateset.proofs.Sets.{bit-or, bit_word, bit-chosen, word-high, word_lt, word-unique}
use Rattle.stateset.proofs.Tabled.{tabled-length, tabled-at, tabled-same}

-- Tables.

-- the first q of n entries as f gives them, and zeros
abbrev pub begun : (ℕ → ℕ) → ℕ → ℕ → List ℕ
begun f n q = tabled (λ k. cond (ltb k q) (f k) 0) n 0

tabled-zeros : (n i : ℕ) → tabled (λ k. 0) n i ≡ replicate n 0
unfolding tabled
tabled-zeros zero i = refl
tabled-zeros (suc n) i = rw (tabled-zeros n (suc i)) refl

-- no entry yet
pub begun-none : (f : ℕ → ℕ) (n : ℕ) → replicate n 0 ≡ begun f n 0
begun-none f n =
    sym (tabled-same (λ k. cond (ltb k 0) (f k) 0) (λ k. 0) n 0 (λ k g h. rw (le-ltb k 0 (omega arith))) ∙ tabled-zeros n 0)

-- one entry more
pub begun_more : (f : ℕ → ℕ) (n q : ℕ) → q < n → set (begun f n q) q (f q) ≡ begun f n (q + 1)
begun_more f n q h =
    ext_get_or 0 (set (begun f n q) q (f q)) (begun f n (q + 1))
    (length-set (begun f n q) q (f q) ∙ long q ∙ sym (long (q + 1)))
    (λ i l. at i (omega (arith, length-set (begun f n q) q (f q), long q)) (eqb i q) refl)
  where
    long : (q : ℕ) → length (begun f n q) ≡ n
    long q = tabled-length (λ k. cond (ltb k q) (f k) 0) n 0

    entry : (q i : ℕ) → i < n → get_or (begun f n q) i 0 ≡ cond (ltb i q) (f i) 0
    entry q i l = tabled-at (λ k. cond (ltb k q) (f k) 0) n i l

    same : (i : ℕ) (b : Bool) → ltb i q ≡ b → (i ≡ q → ⊥) → ltb i (q + 1) ≡ b
    same i true e ne = let g = ltb-true i q e in lt-ltb i (q + 1) (omega arith)
    same i false e ne = let g = ltb-false i q e in le-ltb i (q + 1) (omega (arith, apart i ne g))
      where
        apart : (i : ℕ) → (i ≡ q → ⊥) → q ≤ i → q < i
        apart i ne g = omega arith

    at : (i : ℕ) → i < n → (b : Bool) → eqb i q ≡ b → get_or (set (begun f n q) q (f q)) i 0 ≡ get_or (begun f n (q + 1)) i 0
    at i l true e =
        let s : i ≡ q = eqb-true i q e in
        rw (s, entry (q + 1) q h, lt-ltb q (q + 1) (omega arith)) (get_or-set_same (begun f n q) q (f q) 0 (omega (arith, long q)))
    at i l false e =
        let ne = eqb-false i q e in
        get_or-set_other (begun f n q) q i (f q) 0 ne
        ∙ entry q i l
        ∙ ap (λ (b : Bool). cond b (f i) 0) (sym (same i (ltb i q) refl ne))
        ∙ sym (entry (q + 1) i l)

-- Sets.

-- no member yet
pub gathered_none : (X : ℕ → Bool) → 0 ≡ word 0 X
unfolding word
gathered_none X = refl

-- one member more, if it has X
pub gathered-more : (X : ℕ → Bool) (q : ℕ) → bit_or (word q X) (cond (X q) (2 ^ q) 0) ≡ word (q + 1) X
gathered-more X q =
    word-unique (q + 1) (bit_or (word q X) (cond (X q) (2 ^ q) 0)) X
    (or_lt (q + 1) (word q X) (cond (X q) (2 ^ q) 0) (lt_of_lt_of_le (word_lt q X) (omega (arith, up))) (one (X q)))
    (λ p l. bit-or (word q X) (cond (X q) (2 ^ q) 0) p ∙ rw (bit-chosen (X q) q p) (at p l (ltb p q) refl))
  where
    up : 2 ^ q < 2 ^ (q + 1)
    up = pow-lt (omega arith)

    one : (b : Bool) → cond b (2 ^ q) 0 < 2 ^ (q + 1)
    one true = up
    one false = pow_pos (q + 1)

    and_one : (b : Bool) → (b && true) ≡ b
    and_one true = refl
    and_one false = refl

    at : (p : ℕ) → p < q + 1 → (b : Bool) → ltb p q ≡ b → (bit (word q X) p || (X q && eqb q p)) ≡ X p
    at p l true e =
        let g = ltb-true p q e in
        rw (bit_word q X p g, ne_eqb q p (λ i. omega arith), and-false) (or-false (X p))
    at p l false e =
        let s : p ≡ q = omega (arith, ltb-false p q e) in
        rw (s, word-high q X q (omega arith), eq-eqb q q refl) (and_one (X q))
