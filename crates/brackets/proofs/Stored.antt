-- What an atom puts into the table of keys by way of a set of bytes.
use Prim.Native.Nat.{ℕ, ◌<◌, ◌≤◌}
use native.Mathlib.Omega.{arith}
use mathlib.Core.Path.{◌≡◌, refl, ◌∙◌}
use mathlib.Core.Bool.{Bool, true, false, not, ◌&&◌, cond, xor, and-false}
use mathlib.Core.List.{List}
use lib.Bits.{bit_or}
use lib.Dec.{leb, eqb}
use lib.ListN.{get_or, replicate, length-replicate, get_or-replicate}
use borrow.Author.Tests.{leb-true}
use Rattle.letters.specs.declared.Case.{Case}
use Rattle.brackets.specs.Form.{Atom, plain, dot, byte}
use Rattle.letters.specs.Letters.{folded}
use Rattle.letters.proofs.Laws.{folded-constant, folded-same}
use Rattle.brackets.specs.Sets.{in_element, named, negated, set_of}
use Rattle.brackets.specs.Promises.{with_element, has_key, with_key}
use Rattle.brackets.proofs.Entries.{with-same, with-get_or}
use Rattle.brackets.specs.Answers.{map_with, keys_with}

-- a set whose folded bytes, turned round or not, are those of an atom puts the atom's states into the table
module _ (case : Case) (a : Atom) (s : List Bool) (n : Bool) (same : (k : ℕ) → k < 256 → xor n (folded case (λ j. get_or s j false) k) ≡ xor (negated a) (folded case (named a) k)) where
  key-same : (k : ℕ) → has_key case s n k ≡ set_of case a k
  unfolding has_key set_of
  key-same k = go (leb k 255) refl
    where
      go : (t : Bool) → leb k 255 ≡ t → (leb 1 k && (leb k 255 && not (eqb k 10))) && xor n (folded case (λ j. get_or s j false) k) ≡ (leb 1 k && (leb k 255 && not (eqb k 10))) && xor (negated a) (folded case (named a) k)
      go true h = let g : k ≤ 255 = leb-true k 255 h in rw (same k (omega arith))
      go false h = rw (h, and-false)

  pub set-stored : (states : ℕ) (keys : List ℕ) → map_with (with_key case s n states) 0 keys ≡ keys_with case a states keys
  unfolding with_key
  set-stored states keys = with-same (with_key case s n states) (λ k x. cond (set_of case a k) (bit_or x states) x) (λ k x. rw (key-same k)) 0 keys

-- and so does one that has the bytes which the atom names
module _ (case : Case) (a : Atom) (s : List Bool) (same : (k : ℕ) → k < 256 → get_or s k false ≡ named a k) where
  pub named-stored : (states : ℕ) (keys : List ℕ) → map_with (with_key case s (negated a) states) 0 keys ≡ keys_with case a states keys
  named-stored = set-stored case a s (negated a) (λ k h. rw (folded-same case (λ j. get_or s j false) (named a) same k h) refl)

-- a set that starts empty
empty-set : (k : ℕ) → k < 256 → get_or (replicate 256 false) k false ≡ false
empty-set k h = get_or-replicate 256 k false false h

pub set-entry : (f : ℕ → Bool → Bool) (k : ℕ) → k < 256 → get_or (map_with f 0 (replicate 256 false)) k false ≡ f k false
set-entry f k h = with-get_or f false (replicate 256 false) k (rw (length-replicate 256 false) h) ∙ rw (empty-set k h)

module _ (b : ℕ) (s : List Bool) (e : s ≡ map_with (with_element (byte b)) 0 (replicate 256 false)) where
  pub key-stored : (case : Case) (states : ℕ) (keys after : List ℕ) → after ≡ map_with (with_key case s false states) 0 keys → after ≡ keys_with case (plain b) states keys
  unfolding named with_element in_element
  key-stored case states keys after f = f ∙ named-stored case (plain b) s (λ k h. rw (e, set-entry (with_element (byte b)) k h) refl) states keys

-- all bytes but those of the empty set are all bytes
pub dot-stored : (case : Case) (states : ℕ) (keys after : List ℕ) → after ≡ map_with (with_key case (replicate 256 false) true states) 0 keys → after ≡ keys_with case dot states keys
unfolding named xor
dot-stored case states keys after e =
    e
    ∙ set-stored case dot (replicate 256 false) true
    (λ k h. rw (folded-same case (λ j. get_or (replicate 256 false) j false) (λ j. false) (λ j g. empty-set j g) k h, folded-constant case false k, folded-constant case true k) refl)
    states keys
