-- What is added to a set of keys, and what a set puts into the table of keys: one law for each step of the code.
use Prim.Native.Nat.{ℕ, ◌+◌, ◌<◌, ◌≤◌}
use native.Mathlib.Omega.{arith}
use mathlib.Core.Path.{◌≡◌, refl, sym, ◌∙◌}
use mathlib.Core.Bool.{Bool, true, false, not, ◌&&◌, xor, or-true, or-false, and-false}
use mathlib.Core.List.{List}
use lib.Bits.{bit_or}
use lib.Dec.{leb, eqb}
use lib.ListN.{get_or, set}
use borrow.Author.Tests.{le-leb, lt-leb, eq-eqb, ne_eqb, eqb-true}
use Rattle.letters.specs.declared.Case.{Case}
use Rattle.letters.specs.Letters.{folded}
use Rattle.brackets.specs.declared.element.Element as declared
use Rattle.brackets.specs.Form.{Element, byte, range}
use Rattle.brackets.specs.Sets.{in_element}
use Rattle.brackets.specs.Promises.{with_element, has_key, with_key, element_of, Known}
use Rattle.brackets.proofs.Entries.{partly, entry_first, entry-none, entry_set, entry-last}
use Rattle.brackets.specs.Answers.{map_with}
use Rattle.runs.specs.Keys.{line_key}
use Rattle.runs.proofs.KeyLaws.{key-test}

-- a key that an element has, and one that it has not
module _ (e : Element) (k : ℕ) where
  added : (x : Bool) → in_element k e ≡ true → true ≡ with_element e k x
  unfolding with_element
  added x h = rw h (sym (or-true x))

  not-added : (x : Bool) → in_element k e ≡ false → with_element e k x ≡ x
  unfolding with_element
  not-added x h = rw h (or-false x)

-- a byte
module _ (b : ℕ) where
  other_byte : (k : ℕ) → (k ≡ b → ⊥) → in_element k (byte b) ≡ false
  unfolding in_element
  other_byte k h = ne_eqb k b h

  same_byte : in_element b (byte b) ≡ true
  unfolding in_element
  same_byte = eq-eqb b b refl

  pub byte-added : (s : List Bool) → set s b true ≡ map_with (with_element (byte b)) 0 s
  byte-added s =
      let first = entry_first (with_element (byte b)) b s (λ k x h. not-added (byte b) k x (other_byte k (omega arith))) in
      let stored = entry_set false (with_element (byte b)) b s s first true (added (byte b) b (get_or s b false) same_byte) in
      entry-last false (with_element (byte b)) (b + 1) (set s b true) s stored (λ k x h. not-added (byte b) k x (other_byte k (omega arith)))

-- a range
module _ (first last : ℕ) where
  below-range : (k : ℕ) → k < first → in_element k (range first last) ≡ false
  unfolding in_element
  below-range k h = rw (lt-leb first k h)

  above-range : (k : ℕ) → last < k → in_element k (range first last) ≡ false
  unfolding in_element
  above-range k h = rw (lt-leb k last h) (and-false (leb first k))

  in-range : (k : ℕ) → first ≤ k → k ≤ last → in_element k (range first last) ≡ true
  unfolding in_element
  in-range k l h = rw (le-leb first k l, le-leb k last h)

  pub range-first : (s : List Bool) → s ≡ partly (with_element (range first last)) first s
  range-first s = entry_first (with_element (range first last)) first s (λ k x h. not-added (range first last) k x (below-range k h))

  module _ (k : ℕ) (now before : List Bool) (inv : now ≡ partly (with_element (range first last)) k before) where
    pub range-on : first ≤ k → k ≤ last → set now k true ≡ partly (with_element (range first last)) (k + 1) before
    range-on l h = entry_set false (with_element (range first last)) k now before inv true (added (range first last) k (get_or now k false) (in-range k l h))

    pub range_last : last < k → now ≡ map_with (with_element (range first last)) 0 before
    range_last h = entry-last false (with_element (range first last)) k now before inv (λ j x g. not-added (range first last) j x (above-range j (omega arith)))

    -- the turn at the last byte
    pub range-whole : first ≤ k → k ≤ last → last ≤ k → set now k true ≡ map_with (with_element (range first last)) 0 before
    range-whole l h g = entry-last false (with_element (range first last)) (k + 1) (set now k true) before (range-on l h) (λ j x i. not-added (range first last) j x (above-range j (omega arith)))

-- an element, as the code has it
module _ (e : declared.Element) where
  pub class-known : (c : ℕ) → e ≡ declared.Element.Class c → Known (element_of e) → c < 12
  class-known c h k = rw h at k

  pub element-added : (d : declared.Element) (before after : List Bool) → e ≡ d → after ≡ map_with (with_element (element_of d)) 0 before → after ≡ map_with (with_element (element_of e)) 0 before
  element-added d before after h g = rw h g

-- whether a key is in a set
module _ (case : Case) (s : List Bool) (negated : Bool) (k : ℕ) where
  pub key-tests : (has : Bool) → k < 256 → has ≡ xor negated (folded case (λ j. get_or s j false) k) → not (eqb k 0) && (not (eqb k 10) && has) ≡ has_key case s negated k
  unfolding has_key
  key-tests has h f = rw (← f) (go (eqb k 0) refl)
    where
      go : (t : Bool) → eqb k 0 ≡ t → not t && (not (eqb k 10) && has) ≡ line_key k && has
      go true e = rw (eqb-true k 0 e)
      go false e = rw (← key-test k h e)

-- what a set puts into the words of its keys
module _ (case : Case) (s : List Bool) (negated : Bool) (states : ℕ) where
  no-key-high : (k : ℕ) → 256 ≤ k → has_key case s negated k ≡ false
  unfolding has_key
  no-key-high k h = let g : 255 < k = omega arith in rw (lt-leb k 255 g) (rw (and-false (leb 1 k)))

  pub keys-first : (keys : List ℕ) → keys ≡ partly (with_key case s negated states) 0 keys
  keys-first keys = entry-none (with_key case s negated states) keys

  module _ (k : ℕ) (now before : List ℕ) (inv : now ≡ partly (with_key case s negated states) k before) where
    module _ (has : Bool) (e : has ≡ has_key case s negated k) where
      pub keys_in_lem : (after : List ℕ) → after ≡ set now k (bit_or (get_or now k 0) states) → has ≡ true → after ≡ partly (with_key case s negated states) (k + 1) before
      unfolding with_key
      keys_in_lem after g h = g ∙ entry_set 0 (with_key case s negated states) k now before inv (bit_or (get_or now k 0) states) (rw (sym e ∙ h))

      pub keys-out : (after : List ℕ) → after ≡ set now k (get_or now k 0) → has ≡ false → after ≡ partly (with_key case s negated states) (k + 1) before
      unfolding with_key
      keys-out after g h = g ∙ entry_set 0 (with_key case s negated states) k now before inv (get_or now k 0) (rw (sym e ∙ h))

    pub keys-last : 256 ≤ k → now ≡ map_with (with_key case s negated states) 0 before
    unfolding with_key
    keys-last h = entry-last 0 (with_key case s negated states) k now before inv (λ j x g. rw (no-key-high j (omega arith)))
