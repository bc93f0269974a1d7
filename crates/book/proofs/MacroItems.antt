-- The items of one macro: laws of what `Book::items` answers, for those that fold over it, and of how it is read.
use Prim.Native.Nat.{ℕ, zero, suc, ◌+◌, ◌-◌, ◌*◌, ◌/◌, ◌<◌, ◌≤◌, min}
use native.Mathlib.Nat.{suc-add, mul-le-mul, div-lt_iff_lt-mul, le-div_iff_mul-le}
use native.Mathlib.Omega.{arith}
use mir.Val.{Fits}
use mir.Syntax.{w64}
use mathlib.Core.Path.{◌≡◌, refl, sym, ap, ◌∙◌}
use mathlib.Core.Bool.{Bool, true, false, cond}
use mathlib.Core.List.Memᴰ
use mathlib.Core.List.{List, [], ◌∷◌, ◌++◌, Memᴰ}
use lib.Dec.{eqb}
use borrow.Author.Tests.{lt-ltb, le-ltb}
use lib.ListN.{length, drop, get_or, set, take, replicate, length-append, length-drop, length-replicate, length-take, take-append-drop}
use lib.Seq.{append_snoc, drop-drop, get_or-take, length-take-le, set_at, take_all, take-append-le, take-nil}
use Rattle.book.specs.declared.item.Item.TheVariants.{Key}
use Rattle.std.specs.Prelude.{Option, Some, None, slice_get}
use Rattle.std.proofs.lemmas.List.{take_more}
use Rattle.std.proofs.lemmas.Option.{get_or_from_slice_get, slice_get-get_or, slice_get_past, slice_get_read, slice_get_within}
use Rattle.book.specs.declared.macro_items.Items.{Items}
use Rattle.book.specs.Format.{repeated, Macro, versions, width}
use Rattle.book.specs.declared.item.Repeated.{Repeated}
use Rattle.book.specs.MacroItems.{front_item, front_items, item_read, part_from, items_in, items_from, decoded}
use Rattle.book.specs.Offset.{offset}
use Rattle.book.specs.Reading.{item_of, le16, times_in, version_in, macros_in}
use Rattle.book.specs.Answer.{offsets_in}
use Rattle.book.proofs.ItemLaws.{width-least, width-most, found_at, short-at}
use Rattle.book.proofs.Bodies.{part-offsets, part-is}
use Rattle.book.proofs.LayoutLaws.{read-in, read-with}
use Rattle.book.proofs.Offsets.{book-few, book-front}
use Rattle.runs.proofs.Tests.{either}

-- The first items of some bytes.
items-length : (version k : ℕ) (b : List ℕ) → length (front_items version k b) ≡ k
unfolding front_items
items-length version zero b = refl
items-length version (suc k) b = ap suc (items-length version k (drop (width version) b))

-- a first part behind some elements
pub drop-take : (m n : ℕ) (l : List ℕ) → drop m (take n l) ≡ take (n - m) (drop m l)
drop-take zero n l = let e : n - 0 ≡ n = omega arith in rw e
drop-take (suc m) zero l = let e : 0 - suc m ≡ 0 = omega arith in rw e
drop-take (suc m) (suc n) [] = sym (take-nil (suc n - suc m))
drop-take (suc m) (suc n) (x ∷ l) = let e : suc n - suc m ≡ n - m = omega arith in rw e (drop-take m n l)

-- the item at the front of a first part that holds it
front-item : (version n : ℕ) (b : List ℕ) → width version ≤ n → front_item version (take n b) ≡ front_item version b
unfolding times_in width
front-item version n b = go (eqb version 1)
  where
    code : 2 ≤ n → le16 (take n b) ≡ le16 b
    code h =
        let low : 0 < n = omega arith in
        let high : 1 < n = omega arith in
        rw (get_or-take n b 0 0 low, get_or-take n b 1 0 high)

    go : (t : Bool) → cond t 2 4 ≤ n → repeated (item_of (le16 (take n b))) (cond t 1 (le16 (drop 2 (take n b)))) ≡ repeated (item_of (le16 b)) (cond t 1 (le16 (drop 2 b)))
    go true h = rw (code h) refl
    go false h =
        let two : 2 ≤ n = omega arith in
        let third : 0 < n - 2 = omega arith in
        let fourth : 1 < n - 2 = omega arith in
        rw (code two, drop-take 2 n b, get_or-take (n - 2) (drop 2 b) 0 0 third, get_or-take (n - 2) (drop 2 b) 1 0 fourth) refl

-- a key of 0, which stands behind the items
abbrev blank : Repeated
blank = repeated (Key 0) 0

-- What `items_in` knows after `count` items.
pub record ItemsSoFar (version : ℕ) (s : List ℕ) (list : Macro) (count : ℕ) : Type 0 where
  pub few : count ≤ 64
  pub fits : width version * count ≤ length s
  pub front : list ≡ front_items version count s ++ replicate (64 - count) blank

pub items-start : (version : ℕ) (s : List ℕ) → ItemsSoFar version s (replicate 64 blank) 0
unfolding front_items
items-start version s = record { few = omega arith; fits = omega arith; front = refl }

-- how many items there are in n bytes
count-is : (version n count : ℕ) → width version * count ≤ n → n < width version * count + width version → n / width version ≡ count
unfolding width
count-is version n count = go (eqb version 1)
  where
    go : (t : Bool) → cond t 2 4 * count ≤ n → n < cond t 2 4 * count + cond t 2 4 → n / cond t 2 4 ≡ count
    go true g h = omega arith
    go false g h = omega arith

count_most : (version n count : ℕ) → width version * count ≤ n → count ≤ n / width version
unfolding width
count_most version n count = go (eqb version 1)
  where
    go : (t : Bool) → cond t 2 4 * count ≤ n → count ≤ n / cond t 2 4
    go true g = omega arith
    go false g = omega arith

-- where an item stands is a small number
pub place-most : (version wide : ℕ) → wide ≡ width version → (count : ℕ) → count < 64 → wide * count ≤ 256
place-most version wide e count h = let four : wide ≤ 4 = omega (arith, width-most version) in let few : count ≤ 64 = omega arith in let most : wide * count ≤ 4 * 64 = mul-le-mul four few in omega arith

pub place-fits : (version wide k : ℕ) → wide ≡ width version → k < 64 → Fits w64 (wide * k)
place-fits version wide k e h = omega (arith, place-most version wide e k h)

-- one item more at the front of some bytes
front-more : (version k : ℕ) (b : List ℕ) → front_items version (k + 1) b ≡ front_items version k b ++ (front_item version (drop (width version * k) b) ∷ [])
unfolding front_items
front-more version zero b = let none : width version * 0 ≡ 0 = omega arith in rw none refl
front-more version (suc k) b =
    let e : width version * suc k ≡ width version + width version * k = omega arith in
    rw (suc-add k 1, e, ← drop-drop (width version * k) (width version) b) (ap (λ (l : Macro). front_item version b ∷ l) (front-more version k (drop (width version) b)))

module _ (version wide : ℕ) (ew : wide ≡ width version) (s : List ℕ) (list : Macro) (count : ℕ) (x : ItemsSoFar version s list count) (r : Option Repeated) (e : r ≡ item_read version (drop (wide * count) s)) where
  here : item_read version (drop (width version * count) s) ≡ r
  here = ap (λ (w : ℕ). item_read version (drop (w * count) s)) (sym ew) ∙ sym e

  pub items-on : (i : Repeated) → count < 64 → r ≡ Some i → ItemsSoFar version s (set list count i) (count + 1)
  items-on i h f =
      let (long, same) = found_at version (drop (width version * count) s) i (here ∙ f) in
      let room : width version ≤ length s - width version * count = rw length-drop at long in
      let more : 64 - count ≡ suc (64 - (count + 1)) = omega arith in
      record {
        few = omega arith;
        fits = omega (arith, x.fits, width-least version);
        front = rw (front-more version count s, append_snoc, x.front, more, ← same) (set_at (front_items version count s) blank (replicate (64 - (count + 1)) blank) i count (items-length version count s));
      }

  pub items-cut : r ≡ None → record { list = list; count = count } ≡ items_in version s
  unfolding items_in
  items-cut f =
      let short : length s - width version * count < width version = rw length-drop at (short-at version (drop (width version * count) s) (here ∙ f)) in
      let most : length s / width version ≡ count = count-is version (length s) count x.fits (omega arith) in
      let all : min 64 (length s / width version) ≡ count = omega (arith, x.few, most) in
      rw (all, x.front)

pub items-full : (version : ℕ) (s : List ℕ) (list : Macro) (count : ℕ) → ItemsSoFar version s list count → 64 ≤ count → record { list = list; count = 64 } ≡ items_in version s
unfolding items_in
items-full version s list count x h =
    let full : count ≡ 64 = omega (arith, x.few) in
    let room : width version * 64 ≤ length s = rw full at x.fits in
    let most : 64 ≤ length s / width version = count_most version (length s) 64 room in
    let all : min 64 (length s / width version) ≡ 64 = omega arith in
    rw (all, x.front, full)

-- What is answered.

pub items-from : (b offsets : List ℕ) (i : ℕ) {p : List ℕ} {v : ℕ} {r : Items} → v ≡ version_in b → p ≡ part_from b offsets i → r ≡ items_in v p → r ≡ items_from b offsets i
unfolding items_from
items-from b offsets i {p} {v} w e f = f ∙ ap (λ (x : ℕ). items_in x p) w ∙ ap (items_in (version_in b)) e

-- the items that some bytes hold
pub decoded-front : (version : ℕ) (s : List ℕ) → decoded (items_in version s) ≡ front_items version (min 64 (length s / width version)) s
unfolding decoded items_in
decoded-front version s =
    let k = min 64 (length s / width version) in
    take-append-le k (front_items version k s) (replicate (64 - k) blank) (rw (items-length version k s) (omega arith)) ∙ take_all k (front_items version k s) (rw (items-length version k s) (omega arith))

pub decoded-few : (b offsets : List ℕ) (i : ℕ) → length (decoded (items_from b offsets i)) ≤ 64
unfolding items_from
decoded-few b offsets i =
    let v = version_in b in
    let s = part_from b offsets i in
    rw (decoded-front v s, items-length v (min 64 (length s / width v)) s) (omega arith)

-- how many they are
pub width-some : (version wide : ℕ) → wide ≡ width version → 0 < wide
width-some version wide e = omega (arith, e, width-least version)

pub item-many : (b offsets : List ℕ) (i : ℕ) {p : List ℕ} {v wide n : ℕ} → v ≡ version_in b → p ≡ part_from b offsets i → wide ≡ width v → n ≡ min (length p / wide) 64 → n ≡ length (decoded (items_from b offsets i))
unfolding items_from
item-many b offsets i {p} {v} {wide} {n} e f w h =
    let x = version_in b in
    let s = part_from b offsets i in
    let turned : min (length s / width x) 64 ≡ min 64 (length s / width x) = omega arith in
    let many : min (length s / width x) 64 ≡ length (decoded (items_in x s)) = rw (decoded-front x s, items-length x (min 64 (length s / width x)) s) turned in
    rw (h, w, e, f) many

pub items-few : (b offsets : List ℕ) (i : ℕ) → (items_from b offsets i).count ≤ 64
unfolding items_from items_in
items-few b offsets i = omega arith

pub items-wide : (b offsets : List ℕ) (i : ℕ) → length (items_from b offsets i).list ≡ 64
unfolding items_from items_in
items-wide b offsets i =
    let v = version_in b in
    let k = min 64 (length (part_from b offsets i) / width v) in
    rw (length-append, items-length v k (part_from b offsets i), length-replicate) (omega arith)

pub decoded-length : (b offsets : List ℕ) (i : ℕ) → length (decoded (items_from b offsets i)) ≡ (items_from b offsets i).count
unfolding decoded
decoded-length b offsets i = length-take-le (items_from b offsets i).count (items_from b offsets i).list (rw (items-wide b offsets i) (items-few b offsets i))

-- the same of a place that holds the answer
module _ (b offsets : List ℕ) (i : ℕ) {r : Items} (e : r ≡ items_from b offsets i) where
  pub count-few : r.count ≤ 64
  count-few = rw e (items-few b offsets i)

  pub count_fits : r.count ≤ length r.list
  count_fits = rw (e, items-wide b offsets i) (items-few b offsets i)

-- the items that are shown
pub shown : (r : Items) → length r.list ≡ 64 → take (min r.count 64) r.list ≡ decoded r
unfolding decoded
shown r e =
    either r.count 64
    (λ h. let all : min r.count 64 ≡ r.count = omega arith in rw all refl)
    (λ h. let all : min r.count 64 ≡ 64 = omega arith in rw all (take_all 64 r.list (omega (arith, e)) ∙ sym (take_all r.count r.list (omega (arith, e)))))

-- One item alone.
module _ (version : ℕ) (s : List ℕ) (k : ℕ) where
  abbrev behind : List ℕ
  behind = drop (width version * k) s

  -- item i of the first ones
  front-get : (version n : ℕ) (b : List ℕ) (i : ℕ) → i < n → slice_get (front_items version n b) i ≡ Some (front_item version (drop (width version * i) b))
  unfolding front_items
  front-get version zero b i h = absurd (omega arith)
  front-get version (suc n) b zero h = let none : width version * 0 ≡ 0 = omega arith in rw none refl
  front-get version (suc n) b (suc i) h =
      let e : width version * suc i ≡ width version + width version * i = omega arith in
      rw (e, ← drop-drop (width version * i) (width version) b) (front-get version n (drop (width version) b) i (omega arith))

  read_short : length s < width version * k + width version → item_read version behind ≡ slice_get (decoded (items_in version s)) k
  read_short h =
      let wide : 0 < width version = omega (arith, width-least version) in
      let short : length behind < width version = rw length-drop (omega arith) in
      let turned : length s < (k + 1) * width version = omega arith in
      let few : length s / width version < k + 1 = (div-lt_iff_lt-mul wide).1 turned in
      let past : min 64 (length s / width version) ≤ k = omega arith in
      rw (lt-ltb (length behind) (width version) short, decoded-front version s) (sym (slice_get_past (front_items version (min 64 (length s / width version)) s) k (rw (items-length version (min 64 (length s / width version)) s) past)))

  read-there : k < 64 → width version * k + width version ≤ length s → item_read version behind ≡ slice_get (decoded (items_in version s)) k
  read-there h l =
      let wide : 0 < width version = omega (arith, width-least version) in
      let long : width version ≤ length behind = rw length-drop (omega arith) in
      let turned : (k + 1) * width version ≤ length s = omega arith in
      let many : k + 1 ≤ length s / width version = (le-div_iff_mul-le wide).1 turned in
      let count = min 64 (length s / width version) in
      let inside : k < count = omega arith in
      rw (le-ltb (length behind) (width version) long, decoded-front version s) (sym (front-get version count s k inside))

  read_one : k < 64 → item_read version behind ≡ slice_get (decoded (items_in version s)) k
  read_one h = either (length s) (width version * k + width version) (λ l. read_short l) (λ l. read-there h l)

module _ (b offsets : List ℕ) (i k : ℕ) where
  pub item-beyond : 64 ≤ k → None ≡ slice_get (decoded (items_from b offsets i)) k
  item-beyond h = sym (slice_get_past (decoded (items_from b offsets i)) k (omega (arith, decoded-few b offsets i)))

  pub item-read : {p : List ℕ} {v wide : ℕ} {r : Option Repeated} → k < 64 → v ≡ version_in b → p ≡ part_from b offsets i → wide ≡ width v → r ≡ item_read v (drop (wide * k) p) → r ≡ slice_get (decoded (items_from b offsets i)) k
  unfolding items_from
  item-read {p} {v} {wide} {r} h e f w g = g ∙ ap (λ (n : ℕ). item_read v (drop (n * k) p)) w ∙ rw (e, f) (read_one (version_in b) (part_from b offsets i) k h)

-- One item more, for those who go through some items one by one.
module _ (is : Macro) (k : ℕ) where
  module _ {x : Repeated} (e : slice_get is k ≡ Some x) where
    pub item-more : take (k + 1) is ≡ take k is ++ (x ∷ [])
    item-more = take_more is k x (slice_get_within is k x e) ∙ ap (λ (y : Repeated). take k is ++ (y ∷ [])) (get_or_from_slice_get is k x x e)

    pub item-in : Memᴰ x is
    item-in = rw (take-append-drop (k + 1) is) at (Memᴰ.append_left (drop (k + 1) is) front)
      where
        front : Memᴰ x (take (k + 1) is)
        front = rw item-more (Memᴰ.append_right (take k is) (Memᴰ.head refl))

  -- where there is none, they were all
  pub items-end : slice_get is k ≡ None → take k is ≡ is
  items-end e = either k (length is) (λ h. clash-none (sym e ∙ slice_get-get_or is k blank h)) (λ h. take_all k is h)
    where
      clash-none : {x : Repeated} → None ≡ Some x → take k is ≡ is
      clash-none f = absurd (cc)

-- The same of the items that a list holds, by its places and its count.
module _ (r : Items) (k : ℕ) (h : k < r.count) {x : Repeated} (f : slice_get r.list k ≡ Some x) where
  pub decoded-at : slice_get (decoded r) k ≡ Some x
  unfolding decoded
  decoded-at =
      let inside : k < length r.list = slice_get_within r.list k x f in
      let held : get_or r.list k x ≡ x = get_or_from_slice_get r.list k x x f in
      slice_get_read (take r.count r.list) (length (take r.count r.list)) k x refl (rw length-take (omega arith)) (sym (get_or-take r.count r.list k x h ∙ held))

  pub items_more : take (k + 1) (decoded r) ≡ take k (decoded r) ++ (x ∷ [])
  items_more = item-more (decoded r) k decoded-at

  pub decoded-in : Memᴰ x (decoded r)
  decoded-in = item-in (decoded r) k decoded-at

-- the bytes behind are no matter
front-take : (version k n : ℕ) (b : List ℕ) → width version * k ≤ n → front_items version k (take n b) ≡ front_items version k b
unfolding front_items
front-take version zero n b h = refl
front-take version (suc k) n b h =
    let room : width version ≤ n = omega arith in
    rw (front-item version n b room, drop-take (width version) n b)
    (ap (λ (l : Macro). front_item version b ∷ l) (front-take version k (n - width version) (drop (width version) b) (omega arith)))

-- the items of bytes that are just enough for k items
exact-items : (version k : ℕ) (b : List ℕ) → k ≤ 64 → width version * k ≤ length b → decoded (items_in version (take (width version * k) b)) ≡ front_items version k b
exact-items version k b few room =
    let part = take (width version * k) b in
    let long : length part ≡ width version * k = rw length-take (omega arith) in
    let many : length part / width version ≡ k = count-is version (length part) k (omega arith) (omega (arith, width-least version)) in
    let count : min 64 (length part / width version) ≡ k = omega (arith, many) in
    decoded-front version part ∙ rw count (front-take version k (width version * k) b (omega arith))

-- a macro of a book has the items that its offsets lead to
pub items-sound : (b : List ℕ) (i : ℕ) → i < length (macros_in b) → decoded (items_from b (offsets_in b) i) ≡ get_or (macros_in b) i []
unfolding items_from
items-sound b i h =
    let v = version_in b in
    let m = get_or (macros_in b) i [] in
    let (rest, e) = read-in b h in
    let p = part-offsets b i h in
    let room : width v * length m ≤ length (drop (offset v (macros_in b) i + 2) b) = rw length-drop (omega (arith, p.from, p.to, p.fits)) in
    rw (part-is b i h) (exact-items v (length m) (drop (offset v (macros_in b) i + 2) b) (book-few versions b (macros_in b) rest (read-with b e) i h) room)
    ∙ book-front versions b (macros_in b) rest (read-with b e) i h

-- the same where a place holds the answer for a macro of the book
pub items-are : (b offsets : List ℕ) (i : ℕ) → offsets ≡ offsets_in b → i < length (macros_in b) → decoded (items_from b offsets i) ≡ get_or (macros_in b) i []
items-are b offsets i table inside = rw table (items-sound b i inside)

module _ (b offsets : List ℕ) (i : ℕ) (table : offsets ≡ offsets_in b) (inside : i < length (macros_in b)) {r : Items} (e : r ≡ items_from b offsets i) where
  own : decoded r ≡ get_or (macros_in b) i []
  own = rw e (items-are b offsets i table inside)

  -- its first items, where these are all
  pub items-all : (k : ℕ) → r.count ≤ k → take k (decoded r) ≡ get_or (macros_in b) i []
  items-all k h = take_all k (decoded r) (rw (e, decoded-length b offsets i, ← e) h) ∙ own

  pub item-among : (k : ℕ) → k < r.count → {x : Repeated} → slice_get r.list k ≡ Some x → Memᴰ x (get_or (macros_in b) i [])
  item-among k h f = rw own at (decoded-in r k h f)
