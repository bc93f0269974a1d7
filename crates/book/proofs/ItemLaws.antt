-- The item at a place of some bytes, by the version of the book.
use Prim.Native.Nat.{ℕ, ◌+◌, ◌-◌, ◌*◌, ◌<◌, ◌≤◌}
use native.Mathlib.Omega.{arith}
use mathlib.Core.Path.{◌≡◌, refl, ◌∙◌}
use mathlib.Core.List.{List}
use mathlib.Core.Bool.{Bool, true, false, cond, ◌||◌, or-false}
use lib.ListN.{length, drop, get_or, length-drop}
use lib.Seq.{get_or-drop, drop-drop}
use lib.Dec.{ltb, eqb}
use borrow.Author.Tests.{lt-ltb, le-ltb, ltb-true, ltb-false, eq-eqb, ne_eqb}
use Rattle.book.specs.declared.item.Item.TheVariants.{Key, Call}
use Rattle.std.specs.Prelude.{Some, None}
use Rattle.book.specs.declared.item.Item.{Item}
use Rattle.book.specs.declared.item.Repeated.{Repeated}
use Rattle.book.specs.Format.{repeated, width, versions}
use Rattle.book.specs.Reading.{item_of, le16, times_in}
use Rattle.book.specs.MacroItems.{front_item, item_read}
use Rattle.runs.specs.Keys.{member}

-- How many bytes an item has.
module _ (version : ℕ) where
  pub width_one : version ≡ 1 → 2 ≡ width version
  unfolding width
  width_one e = rw (eq-eqb version 1 e) refl

  pub width-other : (version ≡ 1 → ⊥) → 4 ≡ width version
  unfolding width
  width-other e = rw (ne_eqb version 1 e) refl

  -- either two or four
  pub width-least : 2 ≤ width version
  unfolding width
  width-least = go (eqb version 1)
    where
      go : (t : Bool) → 2 ≤ cond t 2 4
      go true = omega arith
      go false = omega arith

  pub width-most : width version ≤ 4
  unfolding width
  width-most = go (eqb version 1)
    where
      go : (t : Bool) → cond t 2 4 ≤ 4
      go true = omega arith
      go false = omega arith

-- how often an item stands there
module _ (version : ℕ) (b : List ℕ) where
  pub times-once : version ≡ 1 → 1 ≡ times_in version b
  unfolding times_in
  times-once e = rw (eq-eqb version 1 e) refl

  pub times-counted : (version ≡ 1 → ⊥) → le16 (drop 2 b) ≡ times_in version b
  unfolding times_in
  times-counted e = rw (ne_eqb version 1 e) refl

-- the versions that are read
pub taken-told : (version : ℕ) → eqb version 1 || eqb version 2 ≡ member version versions
taken-told version = rw (or-false (eqb version 2)) refl

module _ (s : List ℕ) (at : ℕ) where
  pub le16-of-bytes : get_or s at 0 + 256 * get_or s (at + 1) 0 ≡ le16 (drop at s)
  le16-of-bytes =
      let e : at ≡ at + 0 = omega arith in
      rw (get_or-drop at s 0 0, get_or-drop at s 1 0, ← e)

  module _ (version : ℕ) where
    -- the two answers of `times_at`
    pub times-first : version ≡ 1 → 1 ≡ times_in version (drop at s)
    times-first e = times-once version (drop at s) e

    pub times-second : (version ≡ 1 → ⊥) → {k : ℕ} → k ≡ le16 (drop (at + 2) s) → k ≡ times_in version (drop at s)
    times-second e f = f ∙ rw (← drop-drop 2 at s) (times-counted version (drop at s) e)

    -- and its four bytes are there
    pub times-there : (version ≡ 1 → ⊥) → at + width version ≤ length s → at + 2 + 1 < length s
    times-there e h = omega (arith, width-other version e)

    -- the ways out of `read_item`
    module _ (wide : ℕ) (e : wide ≡ width version) where
      short : length s < at + width version → None ≡ item_read version (drop at s)
      short h =
          let f : length s - at < width version = omega (arith, width-least version) in
          simp (length-drop, lt-ltb _ _ f)

      pub code-short : length s < wide → None ≡ item_read version (drop at s)
      code-short h = short (omega arith)

      module _ (room : wide ≤ length s) where
        pub code-cut : length s - wide < at → None ≡ item_read version (drop at s)
        code-cut h = short (omega arith)

        module _ (h : at ≤ length s - wide) where
          pub code_fits : at + width version ≤ length s
          code_fits = omega (arith, room)

          pub code-there : at + 1 < length s
          code-there = omega (arith, room, width-least version)

          pub code-found : {i : Item} {n : ℕ} → i ≡ item_of (le16 (drop at s)) → n ≡ times_in version (drop at s) → Some (repeated i n) ≡ item_read version (drop at s)
          code-found c t =
              let f : width version ≤ length s - at = omega (arith, room, width-least version) in
              rw (c, t, length-drop at s, le-ltb _ _ f) refl

-- an item that was read is at the front of the bytes, which are enough for it
pub found_at : (version : ℕ) (b : List ℕ) (i : Repeated) → item_read version b ≡ Some i → (width version ≤ length b) × (i ≡ front_item version b)
found_at version b i e = go (ltb (length b) (width version)) refl e
  where
    go : (t : Bool) → ltb (length b) (width version) ≡ t → cond t None (Some (front_item version b)) ≡ Some i → (width version ≤ length b) × (i ≡ front_item version b)
    go true h f = absurd (cc)
    go false h f = (ltb-false _ _ h, cc)

-- and where none was read they are not
pub short-at : (version : ℕ) (b : List ℕ) → item_read version b ≡ None → length b < width version
short-at version b e = go (ltb (length b) (width version)) refl e
  where
    go : (t : Bool) → ltb (length b) (width version) ≡ t → cond t None (Some (front_item version b)) ≡ None → length b < width version
    go true h f = ltb-true _ _ h
    go false h f = absurd (cc)

-- the two kinds of item
pub item-key : (k : ℕ) → k < 256 → Key k ≡ item_of k
item-key k h = simp (lt-ltb _ _ h)

pub item-call : (k : ℕ) → 256 ≤ k → Call (k - 256) ≡ item_of k
item-call k h = simp (le-ltb _ _ h)
