-- Laws of what is written over the front of a list, of what is kept for each macro of a book, in words one after another, and of repeated runs: stated once, over what is kept.
use Prim.Native.Nat.{ℕ, zero, suc, ◌+◌, ◌-◌, ◌*◌, ◌<◌, ◌≤◌}
use native.Mathlib.Omega.{arith}
use native.Mathlib.Numerals.{add-one}
use mathlib.Core.Path.{◌≡◌, refl, sym, ap, ◌∙◌}
use mathlib.Core.Bool.{Bool, true, false}
use mathlib.Core.Logic.{⊎_elim}
use mathlib.Core.List.Memᴰ
use mathlib.Core.List.{List, [], ◌++◌, append_assoc, append-nil, Memᴰ}
use lib.Dec.{ltb}
use borrow.Author.Tests.{ltb-true, ltb-false}
use lib.ListN.{length, get_or, take, drop, replicate, length-append, length-drop}
use lib.Seq.{take_at, drop_at, drop-append-add, drop-drop}
use Rattle.runs.specs.Keys.{is_run}
use Rattle.runs.specs.Kept.{over, first_words, words_over, times}
use Rattle.runs.proofs.KeyLaws.{run-append}

-- there is as much as before
pub over-length : (front list : List ℕ) → length front ≤ length list → length (over front list) ≡ length list
over-length front list h = rw (length-append front (drop (length front) list), length-drop (length front) list) (omega arith)

-- and behind it nothing changes
pub over-behind : (front list : List ℕ) (n : ℕ) → length front ≤ n → drop n (over front list) ≡ drop n list
over-behind front list n h =
    let split : n ≡ length front + (n - length front) = omega arith in
    rw split (drop-append-add front (drop (length front) list) (n - length front) ∙ drop-drop (n - length front) (length front) list)

pub words-none : (W : ℕ → List ℕ) → first_words W 0 ≡ []
unfolding first_words
words-none W = refl

pub words-suc : (W : ℕ → List ℕ) (n : ℕ) → first_words W (suc n) ≡ first_words W n ++ W n
unfolding first_words
words-suc W n = refl

-- the words of macro j stand at its place in the work words
abbrev pub StandsIn : (ℕ → List ℕ) → ℕ → ℕ → List ℕ → Type 0
StandsIn W k j work = (behind : List ℕ) × (drop (j * k) work ≡ W j ++ behind)

module _ (W : ℕ → List ℕ) (k : ℕ) (wide : (i : ℕ) → length (W i) ≡ k) where
  pub words-length : (n : ℕ) → length (first_words W n) ≡ n * k
  unfolding first_words
  words-length zero = omega arith
  words-length (suc n) = rw (length-append, words-length n, wide n) (omega arith)

  -- the words of each of the first n macros stand at its place
  pub words-at : (n j : ℕ) → j < n → (rest : List ℕ) → StandsIn W k j (first_words W n ++ rest)
  unfolding first_words
  words-at zero j h rest = absurd (omega arith)
  words-at (suc n) j h rest = rw (append_assoc (first_words W n) (W n) rest) (go (λ l. words-at n j l (W n ++ rest)) (ltb j n) refl)
    where
      go : (j < n → StandsIn W k j (first_words W n ++ (W n ++ rest))) → (b : Bool) → ltb j n ≡ b → StandsIn W k j (first_words W n ++ (W n ++ rest))
      go f true e = f (ltb-true j n e)
      go f false e =
          let same : j ≡ n = omega (arith, ltb-false j n e) in
          (rest, rw same (drop_at (first_words W n) (W n ++ rest) (n * k) (words-length n)))

  -- and those of one macro more are stored behind the first i
  pub words-stored : (i : ℕ) (before work after : List ℕ) → work ≡ words_over W k i before → after ≡ take (i * k) work ++ (W i ++ drop (i * k + k) work) → after ≡ words_over W k (i + 1) before
  unfolding first_words
  words-stored i before work after e f =
      let at = i * k in
      let front : take at work ≡ first_words W i = ap (take at) e ∙ take_at (first_words W i) (drop at before) at (words-length i) in
      let behind : drop at work ≡ drop at before = ap (drop at) e ∙ drop_at (first_words W i) (drop at before) at (words-length i) in
      let more : drop (at + k) work ≡ drop (at + k) before = sym (drop-drop k at work) ∙ ap (drop k) behind ∙ drop-drop k at before in
      let place : at + k ≡ (i + 1) * k = omega arith in
      f
      ∙ ap (λ (l : List ℕ). l ++ (W i ++ drop (at + k) work)) front
      ∙ ap (λ (l : List ℕ). first_words W i ++ (W i ++ l)) (more ∙ ap (λ (n : ℕ). drop n before) place)
      ∙ sym (append_assoc (first_words W i) (W i) (drop ((i + 1) * k) before))
      ∙ ap (λ (n : ℕ). first_words W n ++ drop ((i + 1) * k) before) (sym (add-one i))

pub times-add : (m n : ℕ) (w : List ℕ) → times (m + n) w ≡ times m w ++ times n w
unfolding times
times-add zero n w = let e : 0 + n ≡ n = omega arith in rw e refl
times-add (suc m) n w = let e : suc m + n ≡ suc (m + n) = omega arith in rw e (ap (λ (l : List ℕ). w ++ l) (times-add m n w) ∙ sym (append_assoc w (times m w) (times n w)))

-- a run once
pub times-one : (w : List ℕ) → times 1 w ≡ w
unfolding times
times-one w = append-nil w

-- a run 0 times, and one time more
pub times_none : (w : List ℕ) → times 0 w ≡ []
unfolding times
times_none w = refl

pub times-suc : (n : ℕ) (w : List ℕ) → times (suc n) w ≡ w ++ times n w
unfolding times
times-suc n w = refl

pub times_more : (n : ℕ) (w : List ℕ) → times (n + 1) w ≡ w ++ times n w
times_more n w = rw (add-one n) (times-suc n w)

pub times-length : (n : ℕ) (w : List ℕ) → length (times n w) ≡ n * length w
unfolding times
times-length zero w = omega arith
times-length (suc n) w = rw (length-append w (times n w), times-length n w) (omega arith)

-- its keys are those of the run
pub times-member : {k : ℕ} (n : ℕ) (w : List ℕ) → Memᴰ k (times n w) → Memᴰ k w
unfolding times
times-member zero w m = absurd (Memᴰ.not-nil m)
times-member (suc n) w m = ⊎_elim (λ h. h) (λ h. times-member n w h) (Memᴰ.append_cases w m)

pub times-run : (n : ℕ) (w : List ℕ) → is_run w ≡ true → is_run (times n w) ≡ true
unfolding times
times-run zero w h = refl
times-run (suc n) w h = run-append w (times n w) h (times-run n w h)

-- zeros
pub zeros-at : (n i : ℕ) → ◌≡◌ {A = ℕ} (get_or (replicate n 0) i 0) 0
zeros-at zero i = refl
zeros-at (suc n) zero = refl
zeros-at (suc n) (suc i) = zeros-at n i

-- what is kept of a run joins as runs follow each other
abbrev pub Joins : {A : Type 0} → (List ℕ → A) → (A → A → A) → (List ℕ → Type 0) → Type 0
Joins of join fine = (u v : List ℕ) → fine u → fine v → join (of u) (of v) ≡ of (u ++ v)

-- Repetition by doubling, for whatever joins.
module _ {A : Type 0} (of : List ℕ → A) (join : A → A → A) (fine : List ℕ → Type 0) (joins : Joins of join fine) (w : List ℕ) (all : (n : ℕ) → fine (times n w)) where
  pub twice : {a : A} (n : ℕ) → a ≡ of (times n w) → join a a ≡ of (times (n + n) w)
  twice {a} n e = rw e (joins (times n w) (times n w) (all n) (all n) ∙ ap of (sym (times-add n n w)))

  pub added : {a b : A} (m n : ℕ) → a ≡ of (times m w) → b ≡ of (times n w) → join a b ≡ of (times (m + n) w)
  added {a} {b} m n e f = rw (e, f) (joins (times m w) (times n w) (all m) (all n) ∙ ap of (sym (times-add m n w)))
