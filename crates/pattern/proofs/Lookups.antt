-- What the tables of a pattern say of its moves.
use Prim.Native.Nat.{ℕ, ◌-◌, ◌^◌, ◌<◌}
use native.Mathlib.Omega.{arith}
use native.Mathlib.Nat.{lt_of_le_of_lt}
use mathlib.Core.Path.{◌≡◌, refl, ap, ◌∙◌}
use mathlib.Core.Bool.{Bool, true, false, ◌&&◌}
use lib.Dec.{leb}
use lib.ListN.{length, get_or}
use lib.Bits.{bit_and, and_le_r}
use Rattle.stateset.specs.Set.{bit, any_below, image_of}
use Rattle.stateset.proofs.Sets.{word_lt, bit_word, bit-and}
use Rattle.stateset.proofs.Images.{bit-image}
use Rattle.stateset.proofs.Some.{any-ext, any-and}
use Rattle.pattern.specs.Meaning.{Query}
use Rattle.pattern.specs.States.{holds_key, atom_state, atom_word}
use Rattle.pattern.specs.Moves.{enters, into}
use Rattle.pattern.specs.Automata.{key_table, enter_table}
use Rattle.stateset.proofs.Tabled.{tabled-length, tabled-at}

-- the parts of two tests, in another order
and-order : (a b c d : Bool) → ((a && (b && c)) && (b && d)) ≡ (a && (b && (c && d)))
and-order true true c d = refl
and-order true false c d = refl
and-order false b c d = refl

module _ (t : Query) where
  pub keys_length : length (key_table t) ≡ 256
  unfolding key_table
  keys_length = tabled-length (λ c. atom_word (λ k. holds_key t k c)) 256 0

  pub enter-length : length (enter_table t.tree) ≡ 32
  unfolding enter_table
  enter-length = tabled-length (λ q. atom_word (enters t.tree q)) 32 0

  enter-entry : (q : ℕ) → q < 32 → get_or (enter_table t.tree) q 0 ≡ atom_word (enters t.tree q)
  unfolding enter_table
  enter-entry q l = tabled-at (λ q. atom_word (enters t.tree q)) 32 q l

  image-bit : (x p : ℕ) → p < 32 → bit (image_of (enter_table t.tree) x) p ≡ any_below 32 (λ q. bit x q && atom_state (enters t.tree q) p)
  image-bit x p h =
      bit-image (enter_table t.tree) x p (omega arith)
      ∙ ap (λ (n : ℕ). any_below n (λ q. bit x q && bit (get_or (enter_table t.tree) q 0) p)) enter-length
      ∙ any-ext 32 (λ q. bit x q && bit (get_or (enter_table t.tree) q 0) p) (λ q. bit x q && atom_state (enters t.tree q) p)
      (λ q l. ap (λ (b : Bool). bit x q && b) (enter-bit q l))
    where
      enter-bit : (q : ℕ) → q < 32 → bit (get_or (enter_table t.tree) q 0) p ≡ atom_state (enters t.tree q) p
      enter-bit q l = rw (enter-entry q l) (bit_word 32 (atom_state (enters t.tree q)) p h)

  module _ (c : ℕ) (byte : c < 256) where
    keys-entry : get_or (key_table t) c 0 ≡ atom_word (λ k. holds_key t k c)
    unfolding key_table
    keys-entry = tabled-at (λ c. atom_word (λ k. holds_key t k c)) 256 c byte

    keys-bit : (p : ℕ) → p < 32 → bit (get_or (key_table t) c 0) p ≡ atom_state (λ k. holds_key t k c) p
    keys-bit p h = rw keys-entry (bit_word 32 (atom_state (λ k. holds_key t k c)) p h)

    -- the atoms that a set of states enters on a key are states
    pub entered-lt : (x : ℕ) → bit_and (image_of (enter_table t.tree) x) (get_or (key_table t) c 0) < 2 ^ 32
    entered-lt x = lt_of_le_of_lt (and_le_r (image_of (enter_table t.tree) x) (get_or (key_table t) c 0)) (rw keys-entry (word_lt 32 (atom_state (λ k. holds_key t k c))))

    -- and are those that a member may enter and whose set has the key
    pub entered-bit : (x p : ℕ) → p < 32 → bit (bit_and (image_of (enter_table t.tree) x) (get_or (key_table t) c 0)) p ≡ any_below 32 (λ q. bit x q && atom_state (into t q c) p)
    entered-bit x p h =
        bit-and (image_of (enter_table t.tree) x) (get_or (key_table t) c 0) p
        ∙ ap (λ (b : Bool). b && bit (get_or (key_table t) c 0) p) (image-bit x p h)
        ∙ ap (λ (b : Bool). any_below 32 (λ q. bit x q && atom_state (enters t.tree q) p) && b) (keys-bit p h)
        ∙ any-and 32 (λ q. bit x q && atom_state (enters t.tree q) p) (atom_state (λ k. holds_key t k c) p)
        ∙ any-ext 32 (λ q. (bit x q && atom_state (enters t.tree q) p) && atom_state (λ k. holds_key t k c) p) (λ q. bit x q && atom_state (into t q c) p)
        (λ q l. and-order (bit x q) (leb 3 p) (enters t.tree q (p - 3)) (holds_key t (p - 3) c))
