-- Laws of keys, runs and lines.
use Prim.Native.Nat.{ℕ, zero, suc, ◌<◌, ◌≤◌}
use native.Mathlib.Omega.{arith}
use mathlib.Core.Path.{◌≡◌, refl, sym}
use mathlib.Core.Logic.{◌↔◌, ⊎_elim}
use mathlib.Core.Bool.{Bool, true, false, not, ◌&&◌, ◌||◌}
use mathlib.Core.List.Memᴰ
use mathlib.Core.List.{List, [], ◌∷◌, ◌++◌, Memᴰ}
use lib.Dec.{leb, eqb}
use lib.ListN.{length, get_or, drop}
use borrow.Author.Tests.{eqb-true, eqb-false, eq-eqb, leb-true, le-leb, ne_eqb, not-true}
use Rattle.runs.specs.Keys.{Bytes, member, is_key, line_end, is_run, line_key, is_line}
use Rattle.runs.proofs.Tests.{clash, torn, and_both, and-fst, and-snd, and_parts, neither, or_cases, or_left, or_right}

-- Numbers among others.

-- the test tells whether a number is one of the list
member-in : (k : ℕ) (w : List ℕ) → member k w ≡ true → Memᴰ k w
member-in k [] h = clash (cc)
member-in k (b ∷ w) h = ⊎_elim (λ e. Memᴰ.head (eqb-true k b e)) (λ m. Memᴰ.tail (member-in k w m)) (or_cases (eqb k b) (member k w) h)

in-member : (k : ℕ) (w : List ℕ) → Memᴰ k w → member k w ≡ true
in-member k [] m = absurd (Memᴰ.not-nil m)
in-member k (b ∷ w) m = ⊎_elim (λ e. or_left (eqb k b) (member k w) (eq-eqb k b e)) (λ n. or_right (eqb k b) (member k w) (in-member k w n)) (Memᴰ.cases_cons m)

pub member-iff : (k : ℕ) (w : List ℕ) → (member k w ≡ true) ↔ Memᴰ k w
member-iff k w = (member-in k w, in-member k w)

-- a number that is in no list of these stands not at its front, nor behind
pub member-first : (k b : ℕ) (l : List ℕ) → member k (b ∷ l) ≡ false → eqb k b ≡ false
member-first k b l h = (neither (eqb k b) (member k l) h).0

pub member-rest : (k b : ℕ) (l : List ℕ) → member k (b ∷ l) ≡ false → member k l ≡ false
member-rest k b l h = (neither (eqb k b) (member k l) h).1

-- the number at a place is one of them
pub member-at : (k : ℕ) (w : List ℕ) (i : ℕ) → i < length w → get_or w i 0 ≡ k → member k w ≡ true
member-at k [] i h e = absurd (omega arith)
member-at k (c ∷ w) zero h e = or_left (eqb k c) (member k w) (eq-eqb k c (sym e))
member-at k (c ∷ w) (suc i) h e = or_right (eqb k c) (member k w) (member-at k w i (omega arith) e)

-- one more, which is not k
pub member-more : (k : ℕ) (w : List ℕ) (c : ℕ) → member k w ≡ false → eqb k c ≡ false → member k (w ++ (c ∷ [])) ≡ false
member-more k [] c g h = rw h refl
member-more k (d ∷ w) c g h = rw (member-first k d w g) (member-more k w c (member-rest k d w g) h)

-- a number that is not in a list is none of its numbers
pub other-than : (b c : ℕ) (l : List ℕ) → member b l ≡ false → member c l ≡ true → eqb b c ≡ false
other-than b c l h g = go (eqb b c) refl
  where
    go : (t : Bool) → eqb b c ≡ t → eqb b c ≡ false
    go true e = torn (member b l) (rw (eqb-true b c e) g) h
    go false e = e

-- Keys of a line.

-- what such a key is
pub key-is : (b : ℕ) → line_key b ≡ true → (1 ≤ b) × (b ≤ 255) × (eqb b 0 ≡ false) × (eqb b 10 ≡ false)
key-is b h =
    let (low, others) = and_parts (leb 1 b) (leb b 255 && not (eqb b 10)) h in
    let (high, ten) = and_parts (leb b 255) (not (eqb b 10)) others in
    let one : 1 ≤ b = leb-true 1 b low in
    (one, leb-true b 255 high, ne_eqb b 0 (omega arith), not-true _ ten)

-- a byte that is no 0 is one unless it is a line end
pub key-test : (k : ℕ) → k < 256 → eqb k 0 ≡ false → not (eqb k 10) ≡ line_key k
key-test k b h = rw (le-leb 1 k (omega (arith, eqb-false k 0 h)), le-leb k 255 (omega arith)) refl

pub key_of : (b : ℕ) → b < 256 → eqb 0 b ≡ false → eqb 10 b ≡ false → line_key b ≡ true
key_of b h zero-not ten-not =
    let low : 1 ≤ b = omega (arith, eqb-false 0 b zero-not) in
    let high : b ≤ 255 = omega arith in
    let ten : b ≡ 10 → ⊥ = omega (arith, eqb-false 10 b ten-not) in
    rw (le-leb 1 b low, le-leb b 255 high, ne_eqb b 10 ten)

-- a key of a run that is no line end
pub key-of-line : (c : ℕ) → is_key c ≡ true → eqb line_end c ≡ false → line_key c ≡ true
key-of-line c k e =
    let other : eqb c line_end ≡ false = ne_eqb c line_end (λ s. eqb-false line_end c e (sym s)) in
    and_both (leb 1 c) (leb c 255 && not (eqb c line_end)) (and-fst (leb 1 c) (leb c 255) k)
    (and_both (leb c 255) (not (eqb c line_end)) (and-snd (leb 1 c) (leb c 255) k) (rw other refl))

-- Lines.

pub line-none : is_line [] ≡ true
line-none = refl

pub line-cons : (k : ℕ) (w : List ℕ) → line_key k ≡ true → is_line w ≡ true → is_line (k ∷ w) ≡ true
line-cons k w g h = and_both (line_key k) (is_line w) g h

pub line_first : (k : ℕ) (w : List ℕ) → is_line (k ∷ w) ≡ true → line_key k ≡ true
line_first k w h = and-fst (line_key k) (is_line w) h

pub line-rest : (k : ℕ) (w : List ℕ) → is_line (k ∷ w) ≡ true → is_line w ≡ true
line-rest k w h = and-snd (line_key k) (is_line w) h

-- one after another
pub line-append : (u v : List ℕ) → is_line u ≡ true → is_line v ≡ true → is_line (u ++ v) ≡ true
line-append [] v g h = h
line-append (c ∷ u) v g h = line-cons c (u ++ v) (line_first c u g) (line-append u v (line-rest c u g) h)

-- one key more at the end
pub line-more : (w : List ℕ) (k : ℕ) → is_line w ≡ true → line_key k ≡ true → is_line (w ++ (k ∷ [])) ≡ true
line-more w k g h = line-append w (k ∷ []) g (line-cons k [] h line-none)

-- a part of one
pub line_after : (u v : List ℕ) → is_line (u ++ v) ≡ true → is_line v ≡ true
line_after [] v h = h
line_after (c ∷ u) v h = line_after u v (line-rest c (u ++ v) h)

pub line-drop : (n : ℕ) (w : List ℕ) → is_line w ≡ true → is_line (drop n w) ≡ true
line-drop zero w h = h
line-drop (suc n) [] h = h
line-drop (suc n) (c ∷ w) h = line-drop n w (line-rest c w h)

-- a number among its keys is one
pub line-member : (b : ℕ) (w : List ℕ) → member b w ≡ true → is_line w ≡ true → line_key b ≡ true
line-member b [] h g = clash (cc)
line-member b (c ∷ w) h g = go (eqb b c) refl (λ m. line-member b w m (line-rest c w g)) h
  where
    go : (t : Bool) → eqb b c ≡ t → (member b w ≡ true → line_key b ≡ true) → t || member b w ≡ true → line_key b ≡ true
    go true e others m = rw (eqb-true b c e) (line_first c w g)
    go false e others m = others m

-- so it has no number that is none, as 0 and 10
pub line-without : (w : List ℕ) (k : ℕ) → line_key k ≡ false → is_line w ≡ true → member k w ≡ false
line-without w k h g = go (member k w) refl
  where
    go : (t : Bool) → member k w ≡ t → t ≡ false
    go true e = torn (line_key k) (line-member k w e g) h
    go false e = refl

-- and a number that is none at any place makes it no line
pub line-lacks : (w : List ℕ) (i : ℕ) → i < length w → line_key (get_or w i 0) ≡ false → is_line w ≡ false
line-lacks w i h n = go (is_line w) refl
  where
    go : (t : Bool) → is_line w ≡ t → t ≡ false
    go true e = torn (line_key (get_or w i 0)) (line-member (get_or w i 0) w (member-at (get_or w i 0) w i h refl) e) n
    go false e = refl

-- bytes without these two are a line
pub line_of : (p : List ℕ) → Bytes p → member 0 p ≡ false → member line_end p ≡ false → is_line p ≡ true
line_of [] h z t = line-none
line_of (b ∷ p) h z t =
    line-cons b p (key_of b (h 0) (member-first 0 b p z) (member-first line_end b p t)) (line_of p (λ i. h (suc i)) (member-rest 0 b p z) (member-rest line_end b p t))

-- Runs.

pub run_none : is_run [] ≡ true
run_none = refl

pub run-cons : (k : ℕ) (w : List ℕ) → is_key k ≡ true → is_run w ≡ true → is_run (k ∷ w) ≡ true
run-cons k w g h = and_both (is_key k) (is_run w) g h

pub run-first : (k : ℕ) (w : List ℕ) → is_run (k ∷ w) ≡ true → is_key k ≡ true
run-first k w h = and-fst (is_key k) (is_run w) h

pub run-rest : (k : ℕ) (w : List ℕ) → is_run (k ∷ w) ≡ true → is_run w ≡ true
run-rest k w h = and-snd (is_key k) (is_run w) h

pub run-append : (u v : List ℕ) → is_run u ≡ true → is_run v ≡ true → is_run (u ++ v) ≡ true
run-append [] v g h = h
run-append (c ∷ u) v g h = run-cons c (u ++ v) (run-first c u g) (run-append u v (run-rest c u g) h)

-- keys are a run
pub run-keys : (l : List ℕ) → ((k : ℕ) → Memᴰ k l → (1 ≤ k) × (k ≤ 255)) → is_run l ≡ true
run-keys [] f = run_none
run-keys (k ∷ l) f =
    let b = f k (Memᴰ.head refl) in
    run-cons k l (and_both (leb 1 k) (leb k 255) (le-leb 1 k b.0) (le-leb k 255 b.1)) (run-keys l (λ j m. f j (Memᴰ.tail m)))
