-- A move of a set of states by look-up: the words that it is made of come to the states that it leads to.
use Prim.Native.Nat.{ℕ, zero, suc, ◌+◌, ◌-◌, ◌^◌, ◌<◌, ◌≤◌}
use native.Mathlib.Omega.{arith}
use mathlib.Core.Path.{◌≡◌, refl, sym, ap, ◌∙◌}
use mathlib.Core.Bool.{Bool, true, false, not, cond, ◌&&◌, ◌||◌, or-false, and-true, and-false, and-or_distrib_left, or_assoc}
use lib.Dec.{leb, eqb, eqb-zero-suc, eqb-suc-zero, eqb-suc-suc}
use lib.ListN.{get_or}
use lib.Bits.{bit_and, bit_or, or_lt}
use borrow.Author.Tests.{leb-true, le-leb}
use Rattle.stateset.specs.Set.{bit, word, any_below, common, image_of}
use Rattle.stateset.proofs.Sets.{word_lt, word-unique, word-one, word-or, word-ext, bit_word, bit-or, bit-one, bit-chosen}
use Rattle.stateset.proofs.Common.{common-word}
use Rattle.stateset.proofs.Some.{any_some, any-witness, any-ext, any_none, any-widen, any-or, any-through}
use Rattle.pattern.specs.Meaning.{Query}
use Rattle.pattern.specs.States.{ends_free, ends_anchored, empty_branch, empty_free, atom_state, atom_word, holds_key}
use Rattle.pattern.specs.Moves.{into, into_end, jumps, target, move, accepting}
use Rattle.pattern.specs.Automata.{key_table, enter_table}
use Rattle.pattern.proofs.Lookups.{entered-lt, entered-bit}
use Rattle.pattern.proofs.AcceptedLines.{holds-below}
use Rattle.runs.proofs.Tests.{and_both, and-fst, and-snd, tests-ext}
use Rattle.pattern.specs.Form.{Pattern, atom_count}
use Rattle.runs.specs.Keys.{line_key}

-- the states that every key leads to found
abbrev pub always_word : Pattern → ℕ
always_word t = word 32 (λ q. eqb q 2 || jumps t q)

-- line-start and mid-line
fixed-two : bit_or 1 2 ≡ word 32 (λ q. eqb q 0 || eqb q 1)
fixed-two =
    ap (λ (n : ℕ). bit_or n 2) (word-one 32 0 (omega arith))
    ∙ ap (bit_or (word 32 (λ p. eqb 0 p))) (word-one 32 1 (omega arith))
    ∙ word-or 32 (λ p. eqb 0 p) (λ p. eqb 1 p)
    ∙ word-ext 32 (λ p. eqb 0 p || eqb 1 p) (λ q. eqb q 0 || eqb q 1) (λ p h. go p)
  where
    go : (p : ℕ) → (eqb 0 p || eqb 1 p) ≡ (eqb p 0 || eqb p 1)
    go zero = refl
    go (suc zero) = refl
    go (suc (suc p)) = rw (eqb-zero-suc, eqb-suc-suc, eqb-zero-suc, eqb-suc-zero, eqb-suc-suc, eqb-suc-zero) refl

-- a key of a line is a byte
pub key-byte : (c : ℕ) → line_key c ≡ true → c < 256
key-byte c l = omega (arith, leb-true c 255 (and-fst (leb c 255) (not (eqb c 10)) (and-snd (leb 1 c) (leb c 255 && not (eqb c 10)) l)))

-- some atom, by its number and by its state
any-atoms : (n : ℕ) (X : ℕ → Bool) → any_below (3 + n) (atom_state X) ≡ any_below n X
any-atoms n X = tests-ext _ _ forth back
  where
    forth : any_below (3 + n) (atom_state X) ≡ true → any_below n X ≡ true
    forth h =
        let w = any-witness (3 + n) (atom_state X) h in
        let p = w.which in
        let low : 3 ≤ p = leb-true 3 p (and-fst (leb 3 p) (X (p - 3)) w.has) in
        any_some n (p - 3) X (omega arith) (and-snd (leb 3 p) (X (p - 3)) w.has)

    back : any_below n X ≡ true → any_below (3 + n) (atom_state X) ≡ true
    back h =
        let w = any-witness n X h in
        let k = w.which in
        let e : 3 + k - 3 ≡ k = omega arith in
        any_some (3 + n) (3 + k) (atom_state X) (omega arith) (and_both (leb 3 (3 + k)) (X (3 + k - 3)) (le-leb 3 (3 + k) (omega arith)) (rw e w.has))

-- the members of four words together
spell : (e m a f p : ℕ) {u v w z : Bool} → bit e p ≡ u → bit m p ≡ v → bit a p ≡ w → bit f p ≡ z → bit (bit_or (bit_or e m) (bit_or a f)) p ≡ ((u || v) || (w || z))
spell e m a f p g h i j = rw (bit-or (bit_or e m) (bit_or a f) p, bit-or e m p, bit-or a f p, g, h, i, j) refl

-- a word of one member, or none
chosen-lt : (b : Bool) (n : ℕ) → n < 2 ^ 32 → cond b n 0 < 2 ^ 32
chosen-lt true n h = h
chosen-lt false n h = omega arith

module _ (t : Query) (few : atom_count t.tree ≤ 29) (x c : ℕ) (l : line_key c ≡ true) where
  -- the atoms that are entered
  abbrev entered : ℕ
  entered = bit_and (image_of (enter_table t.tree) x) (get_or (key_table t) c 0)

  -- from some state of x
  abbrev from : (ℕ → Bool) → Bool
  from X = any_below 32 (λ q. bit x q && X q)

  abbrev moving : Bool
  moving = common 64 x (bit_or 1 2)

  abbrev always : Bool
  always = common 64 x (always_word t.tree)

  abbrev ending : Bool
  ending = common 64 entered (atom_word (ends_free t.tree))

  -- the word of the states that are led to: the atoms, mid-line, and found for two reasons
  abbrev led_word : ℕ
  led_word = bit_or (bit_or entered (cond moving 2 0)) (bit_or (cond always 4 0) (cond ending 4 0))

  -- and whether state p is one of them
  abbrev led_to : ℕ → Bool
  led_to p = (from (λ q. atom_state (into t q c) p) || (moving && eqb 1 p)) || ((always && eqb 2 p) || (ending && eqb 2 p))

  from-none : from (λ q. false) ≡ false
  from-none = any_none 32 (λ q. bit x q && false) (λ q. and-false (bit x q))

  from_or : (X Y : ℕ → Bool) → from (λ q. X q || Y q) ≡ (from X || from Y)
  from_or X Y =
      any-ext 32 (λ q. bit x q && (X q || Y q)) (λ q. (bit x q && X q) || (bit x q && Y q)) (λ q h. and-or_distrib_left (bit x q) (X q) (Y q))
      ∙ any-or 32 (λ q. bit x q && X q) (λ q. bit x q && Y q)

  from-same : (X Y : ℕ → Bool) → ((q : ℕ) → q < 32 → X q ≡ Y q) → from X ≡ from Y
  from-same X Y e = any-ext 32 (λ q. bit x q && X q) (λ q. bit x q && Y q) (λ q h. ap (λ (b : Bool). bit x q && b) (e q h))

  moving-is : moving ≡ from (λ q. eqb q 0 || eqb q 1)
  moving-is = ap (common 64 x) fixed-two ∙ common-word 32 x (λ q. eqb q 0 || eqb q 1) (omega arith)

  always-is : always ≡ from (λ q. eqb q 2 || jumps t.tree q)
  always-is = common-word 32 x (λ q. eqb q 2 || jumps t.tree q) (omega arith)

  -- an atom that is entered is one of the pattern's
  no-atom : (q k : ℕ) → atom_count t.tree ≤ k → (into t q c k && ends_free t.tree k) ≡ false
  no-atom q k h = go (holds_key t k c) refl
    where
      go : (b : Bool) → holds_key t k c ≡ b → (into t q c k && ends_free t.tree k) ≡ false
      go true e = absurd (omega (arith, holds-below t k c e))
      go false e = rw (e, and-false) refl

  ends_is : (q : ℕ) → any_below 32 (λ p. atom_state (into t q c) p && atom_state (ends_free t.tree) p) ≡ into_end t q c
  ends_is q =
      any-ext 32 (λ p. atom_state (into t q c) p && atom_state (ends_free t.tree) p) (atom_state (λ k. into t q c k && ends_free t.tree k))
      (λ p h. and-part (leb 3 p) (into t q c (p - 3)) (ends_free t.tree (p - 3)))
      ∙ any-atoms 29 (λ k. into t q c k && ends_free t.tree k)
      ∙ any-widen (atom_count t.tree) 29 (λ k. into t q c k && ends_free t.tree k) few (no-atom q)
    where
      and-part : (a b c : Bool) → ((a && b) && (a && c)) ≡ (a && (b && c))
      and-part true b c = refl
      and-part false b c = refl

  ending-is : ending ≡ from (λ q. into_end t q c)
  ending-is =
      common-word 32 entered (atom_state (ends_free t.tree)) (omega arith)
      ∙ any-ext 32 (λ p. bit entered p && atom_state (ends_free t.tree) p) (λ p. any_below 32 (λ q. bit x q && atom_state (into t q c) p) && atom_state (ends_free t.tree) p)
      (λ p h. ap (λ (b : Bool). b && atom_state (ends_free t.tree) p) (entered-bit t c (key-byte c l) x p h))
      ∙ sym (any-through 32 (bit x) (λ q p. atom_state (into t q c) p) (atom_state (ends_free t.tree)))
      ∙ from-same (λ q. any_below 32 (λ p. atom_state (into t q c) p && atom_state (ends_free t.tree) p)) (λ q. into_end t q c) (λ q h. ends_is q)

  -- the states that are led to, by their numbers
  led : (p : ℕ) → p < 32 → led_to p ≡ from (λ q. target t q c p)
  unfolding target
  led zero h = simp (and-false, or-false)
  led (suc zero) h = into-mid (from (λ q. false)) moving always ending from-none ∙ moving-is
    where
      into-mid : (f m a e : Bool) → f ≡ false → ((f || (m && true)) || ((a && false) || (e && false))) ≡ m
      into-mid f m a e h = rw h (simp (and-true, and-false, or-false))
  led (suc (suc zero)) h =
      into-found (from (λ q. false)) moving always ending from-none
      ∙ ap (λ (b : Bool). b || ending) always-is
      ∙ ap (λ (b : Bool). from (λ q. eqb q 2 || jumps t.tree q) || b) ending-is
      ∙ sym (from_or (λ q. eqb q 2 || jumps t.tree q) (λ q. into_end t q c))
      ∙ from-same (λ q. (eqb q 2 || jumps t.tree q) || into_end t q c) (λ q. eqb q 2 || (jumps t.tree q || into_end t q c)) (λ q h. or_assoc (eqb q 2) (jumps t.tree q) (into_end t q c))
    where
      into-found : (f m a e : Bool) → f ≡ false → ((f || (m && false)) || ((a && true) || (e && true))) ≡ (a || e)
      into-found f m a e h = rw h (simp (and-true, and-false))
  led (suc (suc (suc k))) h =
      into-atom (from (λ q. atom_state (into t q c) (suc (suc (suc k))))) moving always ending (eqb 1 (suc (suc (suc k)))) (eqb 2 (suc (suc (suc k))))
      (rw (eqb-suc-suc, eqb-zero-suc) refl)
      (rw (eqb-suc-suc, eqb-suc-suc, eqb-zero-suc) refl)
      ∙ from-same (λ q. atom_state (into t q c) (suc (suc (suc k)))) (λ q. into t q c k) (λ q h. rw (le-leb 3 (suc (suc (suc k))) (omega arith), back) refl)
    where
      into-atom : (f m a e i j : Bool) → i ≡ false → j ≡ false → ((f || (m && i)) || ((a && j) || (e && j))) ≡ f
      into-atom f m a e i j g h = rw (g, h) (simp (and-false, or-false))

      back : suc (suc (suc k)) - 3 ≡ k
      back = omega arith

  -- the words of a move are the set of the states that it leads to
  pub advanced : led_word ≡ word 32 (λ p. any_below 32 (λ q. bit x q && move t q c p))
  unfolding move
  advanced =
      word-unique 32 led_word (λ p. from (λ q. move t q c p))
      (or_lt 32 (bit_or entered (cond moving 2 0)) (bit_or (cond always 4 0) (cond ending 4 0))
      (or_lt 32 entered (cond moving 2 0) (entered-lt t c (key-byte c l) x) (chosen-lt moving 2 (omega arith)))
      (or_lt 32 (cond always 4 0) (cond ending 4 0) (chosen-lt always 4 (omega arith)) (chosen-lt ending 4 (omega arith))))
      (λ p h. spelled p h ∙ led p h ∙ from-same (λ q. target t q c p) (λ q. line_key c && target t q c p) (λ q i. rw l refl))
    where
      spelled : (p : ℕ) → p < 32 → bit led_word p ≡ led_to p
      spelled p h =
          spell entered (cond moving 2 0) (cond always 4 0) (cond ending 4 0) p
          (entered-bit t c (key-byte c l) x p h)
          (bit-chosen moving 1 p)
          (bit-chosen always 2 p)
          (bit-chosen ending 2 p)

-- found, and line-start if it is chosen
module _ (b : Bool) where
  fixed-lt : bit_or 4 (cond b 1 0) < 2 ^ 32
  fixed-lt = or_lt 32 4 (cond b 1 0) (omega arith) (chosen-lt b 1 (omega arith))

  fixed-bit : (p : ℕ) → bit (bit_or 4 (cond b 1 0)) p ≡ (eqb 2 p || (b && eqb 0 p))
  fixed-bit p = rw (bit-or 4 (cond b 1 0) p, bit-chosen b 0 p) (ap (λ (a : Bool). a || (b && eqb 0 p)) (bit-one 2 p))

-- the words that say when a line is found to match
module _ (t : Pattern) where
  pub always-word : bit_or 4 (cond (empty_free t) 1 0) ≡ always_word t
  always-word = word-unique 32 (bit_or 4 (cond (empty_free t) 1 0)) (λ q. eqb q 2 || jumps t q) (fixed-lt (empty_free t)) (λ p h. fixed-bit (empty_free t) p ∙ go p)
    where
      go : (p : ℕ) → (eqb 2 p || (empty_free t && eqb 0 p)) ≡ (eqb p 2 || (eqb p 0 && empty_free t))
      go zero = and-true (empty_free t)
      go (suc zero) = and-false (empty_free t)
      go (suc (suc zero)) = refl
      go (suc (suc (suc k))) = rw (eqb-suc-suc, eqb-suc-suc, eqb-zero-suc, eqb-zero-suc, eqb-suc-suc, eqb-suc-suc, eqb-suc-zero, eqb-suc-zero) (and-false (empty_free t))

  pub accepting-word : bit_or (bit_or 4 (cond (empty_branch t) 1 0)) (atom_word (ends_anchored t)) ≡ word 32 (accepting t)
  unfolding accepting
  accepting-word =
      word-unique 32 (bit_or fixed (atom_word (ends_anchored t))) (accepting t) (or_lt 32 fixed (atom_word (ends_anchored t)) (fixed-lt (empty_branch t)) (word_lt 32 (atom_state (ends_anchored t))))
      (λ p h. bit-or fixed (atom_word (ends_anchored t)) p ∙ spelled p h ∙ go p)
    where
      fixed : ℕ
      fixed = bit_or 4 (cond (empty_branch t) 1 0)

      spelled : (p : ℕ) → p < 32 → (bit fixed p || bit (atom_word (ends_anchored t)) p) ≡ ((eqb 2 p || (empty_branch t && eqb 0 p)) || atom_state (ends_anchored t) p)
      spelled p h = ap (λ (a : Bool). a || bit (atom_word (ends_anchored t)) p) (fixed-bit (empty_branch t) p) ∙ ap (λ (a : Bool). (eqb 2 p || (empty_branch t && eqb 0 p)) || a) (bit_word 32 (atom_state (ends_anchored t)) p h)

      go : (p : ℕ) → ((eqb 2 p || (empty_branch t && eqb 0 p)) || atom_state (ends_anchored t) p) ≡ accepting t p
      go zero = simp (and-true, or-false)
      go (suc zero) = simp (and-false, or-false)
      go (suc (suc zero)) = refl
      go (suc (suc (suc k))) =
          after (eqb 2 (suc (suc (suc k)))) (empty_branch t) (eqb 0 (suc (suc (suc k)))) (leb 3 (suc (suc (suc k)))) (ends_anchored t (suc (suc (suc k)) - 3))
          (rw (eqb-suc-suc, eqb-suc-suc, eqb-zero-suc) refl)
          (rw eqb-zero-suc refl)
          (le-leb 3 (suc (suc (suc k))) (omega arith))
          ∙ ap (ends_anchored t) back
        where
          back : suc (suc (suc k)) - 3 ≡ k
          back = omega arith

          after : (a b c d e : Bool) → a ≡ false → c ≡ false → d ≡ true → ((a || (b && c)) || (d && e)) ≡ e
          after a b c d e f g h = rw (f, g, h) (ap (λ (x : Bool). x || e) (and-false b))
