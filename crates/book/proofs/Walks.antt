-- Where the check of items and macros goes on, or why it stops: one law for each way out of the code.
use Prim.Native.Nat.{ℕ, suc, ◌+◌, ◌-◌, ◌<◌, ◌≤◌}
use native.Mathlib.Omega.{arith}
use mathlib.Core.Path.{◌≡◌, refl, sym, ap, ◌∙◌}
use mathlib.Core.Bool.{true, false, not, ◌&&◌}
use mathlib.Core.List.{List, ◌∷◌}
use lib.Dec.{leb, ltb, eqb}
use lib.ListN.{length, drop, length-drop}
use lib.Seq.{drop-drop}
use borrow.Author.Tests.{lt-ltb, le-ltb, ltb-false, eq-eqb, ne_eqb, not-true, not-false}
use Rattle.refusal.specs.declared.Refusal.{Refusal}
use Rattle.refusal.specs.declared.Refusal.TheVariants.{MalformedBody, InvalidKey, ForwardReference, ZeroRepeatCount}
use Rattle.book.specs.declared.item.Item.{Item}
use Rattle.book.specs.declared.item.Item.TheVariants.{Key, Call}
use Rattle.std.specs.Prelude.{Some, None, Result, Ok, Err}
use Rattle.book.specs.MacroItems.{front_item, item_read}
use Rattle.book.specs.Reading.{Reading, got, refused, next, done, item_of, le16, times_in, check_times, check_item, read_item, read_items, read_macro}
use Rattle.book.specs.Format.{repeated, Macro, width}
use Rattle.book.specs.declared.item.Repeated.{Repeated}
use Rattle.book.specs.Promises.{walk_of}
use Rattle.book.proofs.ItemLaws.{found_at, short-at, width-least}
use Rattle.book.proofs.Readings.{test-got, untest-got, same-got}
use Rattle.runs.proofs.Tests.{clash}

-- One item, by what `read_item` answers.
module _ (s : List ℕ) (at n version : ℕ) where
  abbrev walk : Result ℕ Refusal
  walk = walk_of (length s) (read_item version n (drop at s))

  pub item-cut : None ≡ item_read version (drop at s) → Err MalformedBody ≡ walk
  unfolding read_item
  item-cut e = rw (lt-ltb _ _ (short-at version (drop at s) (sym e)))

  module _ (x : Repeated) (e : Some x ≡ item_read version (drop at s)) where
    found : (width version ≤ length (drop at s)) × (x ≡ front_item version (drop at s))
    found = found_at version (drop at s) x (sym e)

    pub item-fits : at + width version ≤ length s
    item-fits = let h : width version ≤ length s - at = rw length-drop at found.0 in omega (arith, width-least version)

    judged : read_item version n (drop at s) ≡ check_item n x.item x.times (drop (width version) (drop at s))
    unfolding read_item
    judged = rw (le-ltb _ _ found.0, found.1)

    pub key-zero : (k : ℕ) → x.item ≡ Key k → k ≡ 0 → Err InvalidKey ≡ walk
    key-zero k f z = rw (judged, f, eq-eqb _ _ z)

    pub call-high : (j : ℕ) → x.item ≡ Call j → n ≤ j → Err ForwardReference ≡ walk
    call-high j f h = rw (judged, f, le-ltb _ _ h)

    -- neither of these
    abbrev pub Passed : Item → Type 0
    Passed (Key k) = k ≡ 0 → ⊥
    Passed (Call j) = j < n

    past : (i : Item) → x.item ≡ i → Passed i → walk ≡ walk_of (length s) (check_times i x.times (drop (width version) (drop at s)))
    past (Key k) f p = rw (judged, f, ne_eqb _ _ p)
    past (Call j) f p = rw (judged, f, lt-ltb _ _ p)

    module _ (i : Item) (f : x.item ≡ i) (p : Passed i) where
      pub times-none : x.times ≡ 0 → Err ZeroRepeatCount ≡ walk
      times-none z = rw (past i f p, eq-eqb _ _ z)

      pub times-some : (x.times ≡ 0 → ⊥) → {wide : ℕ} → wide ≡ width version → Ok (at + wide) ≡ walk
      times-some z {wide} w = rw (past i f p, ne_eqb _ _ z) (ap Ok left)
        where
          left : at + wide ≡ length s - length (drop (width version) (drop at s))
          left =
              let h : at + width version ≤ length s = item-fits in
              rw (w, length-drop (width version) (drop at s), length-drop at s) (omega arith)

-- what a walk says of the reading behind it
pub walked-refused : {A : Type 0} (n : ℕ) (g : Reading A) (r : Refusal) → walk_of n g ≡ Err r → g ≡ refused r
walked-refused n (got a rest) r e = cc
walked-refused n (refused q) r e = let f : q ≡ r = cc in ap refused f

pub walked_at : {A : Type 0} (n : ℕ) (g : Reading A) (p : ℕ) → walk_of n g ≡ Ok p → (a : A) × (rest : List ℕ) × (g ≡ got a rest) × (p ≡ n - length rest)
walked_at n (got a rest) p e = let f : p ≡ n - length rest = cc in (a, rest, refl, f)
walked_at n (refused q) p e = clash (cc)

-- where reading goes on does not depend on what is made of what was read
walked-map : {A B : Type 0} (n : ℕ) (g : Reading A) (f : A → B) → walk_of n (next g (λ a. done (f a))) ≡ walk_of n g
walked-map n (got a rest) f = refl
walked-map n (refused q) f = refl

-- a repeat count that was read is no 0
pub times-got : (i : Item) (t : ℕ) (b rest : List ℕ) (r : Repeated) → check_times i t b ≡ got r rest → (eqb t 0 ≡ false) × (repeated i t ≡ r) × (b ≡ rest)
times-got i t b rest r e =
    let (some, f) = untest-got (eqb t 0) (got (repeated i t) b) ZeroRepeatCount r rest e in
    let (same, behind) = same-got f in
    (some, same, behind)

-- an item that was read took its bytes
pub item-got : (version n : ℕ) (b rest : List ℕ) (i : Repeated) → read_item version n b ≡ got i rest → (rest ≡ drop (width version) b) × (width version ≤ length b)
unfolding read_item
item-got version n b rest i e =
    let (long, f) = untest-got (ltb (length b) (width version)) (check_item n (item_of (le16 b)) (times_in version b) (drop (width version) b)) MalformedBody i rest e in
    (go (item_of (le16 b)) f, ltb-false _ _ long)
  where
    go : (j : Item) → check_item n j (times_in version b) (drop (width version) b) ≡ got i rest → rest ≡ drop (width version) b
    go (Key k) g = sym (times-got (Key k) (times_in version b) (drop (width version) b) rest i (untest-got (eqb k 0) (check_times (Key k) (times_in version b) (drop (width version) b)) InvalidKey i rest g).1).2
    go (Call j) g = sym (times-got (Call j) (times_in version b) (drop (width version) b) rest i (test-got (ltb j n) (check_times (Call j) (times_in version b) (drop (width version) b)) ForwardReference i rest g).1).2

module _ (s : List ℕ) (version n : ℕ) where
  items-step : (k : ℕ) (b rest : List ℕ) (i : Repeated) → read_item version n b ≡ got i rest → walk_of (length s) (read_items version n (suc k) b) ≡ walk_of (length s) (read_items version n k rest)
  unfolding read_items
  items-step k b rest i e = rw e (walked-map (length s) (read_items version n k rest) (λ (is : Macro). i ∷ is))

  module _ (at left less : ℕ) (w whole : Result ℕ Refusal) (e : w ≡ walk_of (length s) (read_item version n (drop at s))) (inv : walk_of (length s) (read_items version n left (drop at s)) ≡ whole) (h : left ≡ suc less) where
    pub items_refused : (r : Refusal) → w ≡ Err r → Err r ≡ whole
    unfolding read_items
    items_refused r f =
        let g : read_item version n (drop at s) ≡ refused r = walked-refused (length s) (read_item version n (drop at s)) r (sym e ∙ f) in
        rw (h, g) at inv

    pub items-on : (p : ℕ) → at ≤ length s → w ≡ Ok p → (p ≤ length s) × (walk_of (length s) (read_items version n less (drop p s)) ≡ whole)
    items-on p l f = on (walked_at (length s) (read_item version n (drop at s)) p (sym e ∙ f))
      where
        on : ((i : Repeated) × (rest : List ℕ) × (read_item version n (drop at s) ≡ got i rest) × (p ≡ length s - length rest)) → (p ≤ length s) × (walk_of (length s) (read_items version n less (drop p s)) ≡ whole)
        on (i, rest, g, q) =
            let (same, long) = item-got version n (drop at s) rest i g in
            let room : width version ≤ length s - at = rw length-drop at long in
            let size : length rest ≡ length s - at - width version = rw (same, length-drop, length-drop) in
            let offset : p ≡ at + width version = omega (arith, width-least version) in
            let there : drop p s ≡ rest = rw (offset, same, drop-drop (width version) at s) in
            (omega arith, rw there (sym (items-step less (drop at s) rest i g) ∙ rw h at inv))

  pub items-done : (at left : ℕ) (whole : Result ℕ Refusal) → walk_of (length s) (read_items version n left (drop at s)) ≡ whole → left ≤ 0 → at ≤ length s → Ok at ≡ whole
  unfolding read_items
  items-done at left whole inv h l =
      let none : left ≡ 0 = omega arith in
      let offset : at ≡ length s - (length s - at) = omega arith in
      ap Ok offset ∙ rw (none, length-drop) at inv

module _ (s : List ℕ) (at version n : ℕ) where
  pub macro-cut : length s - at < 2 → Err MalformedBody ≡ walk_of (length s) (read_macro version n (drop at s))
  unfolding read_macro
  macro-cut h = simp (length-drop, lt-ltb _ _ h)

  module _ (h : 2 ≤ length s - at) (k : ℕ) (e : k ≡ le16 (drop at s)) where
    pub macro-count : not (leb 1 k && leb k 64) ≡ true → Err MalformedBody ≡ walk_of (length s) (read_macro version n (drop at s))
    unfolding read_macro
    macro-count l = simp (length-drop, le-ltb _ _ h, ← e, not-true (leb 1 k && leb k 64) l)

    pub macro-items : (w : Result ℕ Refusal) → not (leb 1 k && leb k 64) ≡ false → w ≡ walk_of (length s) (read_items version n k (drop (at + 2) s)) → w ≡ walk_of (length s) (read_macro version n (drop at s))
    unfolding read_macro
    macro-items w l f = f ∙ simp (length-drop, le-ltb _ _ h, ← e, not-false (leb 1 k && leb k 64) l, drop-drop)
