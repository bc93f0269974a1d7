-- Laws of keys shown so that a terminal is safe.
use Prim.Native.Nat.{ℕ, ◌+◌, ◌*◌, ◌/◌, ◌%◌, ◌<◌, ◌≤◌}
use native.Mathlib.Omega.{arith}
use native.Mathlib.Numerals.{add-one}
use mathlib.Core.Path.{◌≡◌, refl, sym, ap, ◌∙◌}
use mathlib.Core.Bool.{Bool, true, false, cond, ◌||◌}
use mathlib.Core.List.{List, [], ◌∷◌, ◌++◌, append-nil, append_assoc}
use lib.Dec.{eqb, ltb}
use lib.ListN.{length, get_or, take, length-append}
use lib.Seq.{take_all, take-suc, length-take-le}
use borrow.Author.Tests.{eq-eqb, ne_eqb, lt-ltb, le-ltb}
use Rattle.decimals.specs.declared.text.Draft.{Draft}
use Rattle.decimals.specs.Drafts.{Puts}
use Rattle.decimals.proofs.DraftLaws.{puts-as, puts-none, puts-both}
use Rattle.display.specs.Shown.{hex_digit, code_text, shown_key, shown_keys}

pub hex-low : (d : ℕ) → d < 10 → 48 + d ≡ hex_digit d
unfolding hex_digit
hex-low d h = rw (lt-ltb d 10 h) refl

pub hex-high : (d : ℕ) → 10 ≤ d → 87 + d ≡ hex_digit d
unfolding hex_digit
hex-high d h = rw (le-ltb d 10 h) refl

-- the four bytes of a key that is not shown as it is
pub code-puts : (k : ℕ) {a b : ℕ} {x y : Draft} → a ≡ hex_digit (k / 16) → b ≡ hex_digit (k % 16) → Puts (92 ∷ 120 ∷ a ∷ b ∷ []) x y → Puts (code_text k) x y
code-puts k e f = puts-as (rw (e, f) refl)

-- one key, by its case
module _ (k : ℕ) where
  slash-is : k ≡ 92 → 92 ∷ 92 ∷ [] ≡ shown_key k
  unfolding shown_key
  slash-is e = rw (eq-eqb k 92 e) refl

  code_is : (k ≡ 92 → ⊥) → ltb k 32 || ltb 126 k ≡ true → code_text k ≡ shown_key k
  unfolding shown_key
  code_is n t = rw (ne_eqb k 92 n, t) refl

  plain-is : (k ≡ 92 → ⊥) → ltb k 32 || ltb 126 k ≡ false → k ∷ [] ≡ shown_key k
  unfolding shown_key
  plain-is n t = rw (ne_eqb k 92 n, t) refl

module _ (k : ℕ) {x y : Draft} where
  pub slash-puts : k ≡ 92 → Puts (92 ∷ 92 ∷ []) x y → Puts (shown_key k) x y
  slash-puts e = puts-as (slash-is k e)

  module _ (n : k ≡ 92 → ⊥) where
    pub coded-puts : ltb k 32 || ltb 126 k ≡ true → Puts (code_text k) x y → Puts (shown_key k) x y
    coded-puts t = puts-as (code_is k n t)

    pub plain-puts : ltb k 32 || ltb 126 k ≡ false → Puts (k ∷ []) x y → Puts (shown_key k) x y
    plain-puts t = puts-as (plain-is k n t)

-- a key takes four bytes at the most
key-short : (k : ℕ) → length (shown_key k) ≤ 4
unfolding shown_key
key-short k = go (eqb k 92) (ltb k 32 || ltb 126 k)
  where
    go : (a b : Bool) → length (cond a (92 ∷ 92 ∷ []) (cond b (code_text k) (k ∷ []))) ≤ 4
    go true b = omega arith
    go false true = omega arith
    go false false = omega arith

shown-more : (w : List ℕ) (k : ℕ) → shown_keys (w ++ (k ∷ [])) ≡ shown_keys w ++ shown_key k
unfolding shown_keys
shown-more [] k = append-nil (shown_key k)
shown-more (c ∷ w) k = rw (shown-more w k) (sym (append_assoc (shown_key c) (shown_keys w) (shown_key k)))

pub shown-short : (w : List ℕ) → length (shown_keys w) ≤ 4 * length w
unfolding shown_keys
shown-short [] = omega arith
shown-short (k ∷ w) = rw (length-append (shown_key k) (shown_keys w)) (omega (arith, key-short k, shown-short w))

-- The first i keys are shown.
pub record Showing (keys : List ℕ) (start now : Draft) (i : ℕ) : Type 0 where
  pub room : start.length + 4 * length keys ≤ length start.bytes.now
  pub text : Puts (shown_keys (take i keys)) start now

pub showing-none : (keys : List ℕ) (start : Draft) → start.length + 4 * length keys ≤ length start.bytes.now → Showing keys start start 0
unfolding shown_keys
showing-none keys start h = record { room = h; text = puts-none start (omega arith) }

module _ {keys : List ℕ} {start now : Draft} {i : ℕ} (x : Showing keys start now i) where
  pub showing-more : {next : Draft} → i < length keys → Puts (shown_key (get_or keys i 0)) now next → Showing keys start next (i + 1)
  showing-more h p =
      let one : take (i + 1) keys ≡ take i keys ++ (get_or keys i 0 ∷ []) = ap (λ (k : ℕ). take k keys) (add-one i) ∙ take-suc keys i 0 (omega arith) in
      let more : shown_keys (take (i + 1) keys) ≡ shown_keys (take i keys) ++ shown_key (get_or keys i 0) = ap shown_keys one ∙ shown-more (take i keys) (get_or keys i 0) in
      let fits : start.length + (length (shown_keys (take i keys)) + length (shown_key (get_or keys i 0))) ≤ length start.bytes.now =
      omega (arith, x.room, shown-short (take i keys), length-take-le i keys (omega arith), key-short (get_or keys i 0))
      in
      record { room = x.room; text = puts-as (sym more) (puts-both (shown_keys (take i keys)) (shown_key (get_or keys i 0)) fits x.text p) }

  pub showing-all : length keys ≤ i → Puts (shown_keys keys) start now
  showing-all h = puts-as (ap shown_keys (take_all i keys h)) x.text
