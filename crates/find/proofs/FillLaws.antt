-- Laws of the extents of a book's macros: of one item, of a macro's items, and the words of all.
use Prim.Native.Nat.{ℕ, suc, ◌+◌, ◌-◌, ◌*◌, ◌<◌, ◌≤◌}
use native.Mathlib.Omega.{arith}
use mir.Val.{Fits}
use mir.Syntax.{w64}
use mathlib.Core.Path.{◌≡◌, refl, sym, ap, subst, ◌∙◌}
use mathlib.Core.Bool.{true}
use mathlib.Core.List.{List, [], ◌++◌, Memᴰ}
use lib.ListN.{length, get_or, take, drop, length-append, length-drop}
use lib.Seq.{take_all}
use Rattle.runs.specs.Kept.{first_words, words_over, times}
use Rattle.runs.proofs.KeptLaws.{words-none, words-length, words-at, words-stored}
use Rattle.book.specs.declared.item.Item.{Item}
use Rattle.book.specs.declared.item.Item.TheVariants.{Key, Call}
use Rattle.book.specs.declared.item.Repeated.{Repeated}
use Rattle.book.specs.Format.{Macro, repeated, well_formed}
use Rattle.book.specs.Expansion.{keys_of, expand, unrolled, expansion}
use Rattle.book.specs.Reading.{macros_in}
use Rattle.book.specs.MacroItems.{items_from, decoded}
use Rattle.book.proofs.MacroItems.{item-more, item-in, items-are}
use Rattle.std.specs.Prelude.{Some, slice_get}
use Rattle.book.proofs.LayoutLaws.{well-in, macros-few}
use Rattle.book.proofs.Expansion.{well-call, unrolled-none, expand-none, expand-more, expansion-law}
use Rattle.extents.specs.declared.extent.Extent.{Extent}
use Rattle.extents.specs.Extents.{extent_of}
use Rattle.extents.specs.Operations.{no_extent, joined_extents, repeated_extent}
use Rattle.extents.specs.Words.{width, extent_words, loaded_at, stored_at}
use Rattle.extents.proofs.ExtentLaws.{no-extent, key-extent, join-extents, repeat-extents}
use Rattle.extents.proofs.WordLaws.{loaded-from, stored-at, stored-long}
use Rattle.find.specs.Answer.{extent_words_of}
use Rattle.find.specs.Promises.{item_extent, Extended, MacroAt, WordsFit}

-- The words of macros.
module _ (ms : List Macro) where
  wide : (i : ℕ) → length (extent_words_of ms i) ≡ width
  wide i = refl

  -- macro j's words read back, where those of the first n stand in front
  pub extent-at : (n j : ℕ) → j < n → (words : List ℕ) → Extended ms n words → loaded_at words (j * width) ≡ extent_of (expansion ms j)
  unfolding Extended
  extent-at n j h words (behind, e) =
      let (rest, there) = words-at (extent_words_of ms) width wide n j h behind in
      let long : n * width ≤ length words = rw (e, length-append (first_words (extent_words_of ms) n) behind, words-length (extent_words_of ms) width wide n) (omega arith) in
      loaded-from words (j * width) (extent_of (expansion ms j)) rest (ap (drop (j * width)) e ∙ there) (omega (arith, long))

  -- an item's extent is that of its keys
  pub item-extent : (n : ℕ) (words : List ℕ) → Extended ms n words → (item : Item) → ((j : ℕ) → item ≡ Call j → j < n) → item_extent words item ≡ extent_of (keys_of (λ j. expansion ms j) item)
  unfolding item_extent
  item-extent n words e (Key k) h = key-extent k
  item-extent n words e (Call j) h = extent-at n j (h j refl) words e

-- The keys of some items: of none, and of one more.
pub keys-none : (called : ℕ → List ℕ) → expand called (unrolled []) ≡ []
keys-none called = ap (expand called) unrolled-none ∙ expand-none called

pub keys-more : (called : ℕ → List ℕ) (items : Macro) (k : ℕ) {next : Repeated} → slice_get items k ≡ Some next → expand called (unrolled (take (k + 1) items)) ≡ expand called (unrolled (take k items)) ++ times next.times (keys_of called next.item)
keys-more called items k {next} e = ap (λ (is : Macro). expand called (unrolled is)) (item-more items k e) ∙ expand-more called (take k items) next

-- The items of macro i: after k of them.
pub record ItemsSoFar (ms : List Macro) (items : Macro) (all : Extent) (k : ℕ) : Type 0 where
  pub so_far : all ≡ extent_of (expand (λ j. expansion ms j) (unrolled (take k items)))

pub items-start : (ms : List Macro) (items : Macro) {all : Extent} → all ≡ no_extent → ItemsSoFar ms items all 0
items-start ms items e = record { so_far = e ∙ no-extent ∙ ap extent_of (sym (keys-none (λ j. expansion ms j))) }

module _ {b offsets words : List ℕ} {i : ℕ} (x : MacroAt b offsets i words) {items : Macro} (e : items ≡ decoded (items_from b offsets i)) where
  abbrev ms : List Macro
  ms = macros_in b

  well : well_formed ms ≡ true
  well = well-in b x.inside

  its : items ≡ get_or ms i []
  its = e ∙ items-are b offsets i x.table x.inside

  -- calls go to lower macros
  below : {y : Repeated} → Memᴰ y items → (j : ℕ) → y.item ≡ Call j → j < i
  below {y} m j c = let there : Memᴰ (repeated y.item y.times) (get_or ms i []) = subst (Memᴰ y) its m in well-call ms well i (rw c at there)

  module _ {all : Extent} (k : ℕ) (s : ItemsSoFar ms items all k) where
    pub items-on : {next : Repeated} → slice_get items k ≡ Some next → {one passes both : Extent} {n : ℕ} → one ≡ item_extent words next.item → n ≡ next.times → passes ≡ repeated_extent n one → both ≡ joined_extents all passes → ItemsSoFar ms items both (k + 1)
    items-on {next} h {one} {passes} {both} {n} f g p l =
        let w = expand (λ j. expansion ms j) (unrolled (take k items)) in
        let keys = keys_of (λ j. expansion ms j) next.item in
        let own : one ≡ extent_of keys = f ∙ item-extent ms i words x.below next.item (below (item-in items k h)) in
        let all-passes : passes ≡ extent_of (times next.times keys) = p ∙ ap (repeated_extent n) own ∙ repeat-extents keys n ∙ ap (λ (q : ℕ). extent_of (times q keys)) g in
        record { so_far = l ∙ ap (λ (u : Extent). joined_extents u passes) s.so_far ∙ ap (joined_extents (extent_of w)) all-passes ∙ join-extents w (times next.times keys) ∙ ap extent_of (sym (keys-more (λ j. expansion ms j) items k h)) }

    pub items-done : length items ≤ k → all ≡ extent_of (expansion ms i)
    items-done h = s.so_far ∙ ap extent_of (ap (λ (is : Macro). expand (λ j. expansion ms j) (unrolled is)) (take_all k items h ∙ its) ∙ sym (expansion-law ms well i))

-- the words from a place on, as a part of the work words is written
abbrev pub rest_of : ℕ → List ℕ → List ℕ
rest_of n w = take (length w - n) (drop n w)

pub rest-is : (n : ℕ) (w : List ℕ) → rest_of n w ≡ drop n w
rest-is n w = take_all (length w - n) (drop n w) (rw (length-drop n w) (omega arith))

-- The words of macros 0 to m: after i of them.
pub record FillSoFar (b : List ℕ) (before words : List ℕ) (i : ℕ) : Type 0 where
  pub long : length words ≡ length before
  pub stored : words ≡ words_over (extent_words_of (macros_in b)) width i before

pub fill_start : (b : List ℕ) (before : List ℕ) → FillSoFar b before before 0
fill_start b before = record { long = refl; stored = rw (words-none (extent_words_of (macros_in b))) refl }

module _ {b : List ℕ} {m : ℕ} {before words : List ℕ} {i : ℕ} (s : FillSoFar b before words i) {offsets : List ℕ} (g : WordsFit b offsets m before) (h : i ≤ m) where
  pub macro-at : MacroAt b offsets i words
  unfolding Extended
  macro-at = record { table = g.table; inside = omega (arith, g.inside); below = (drop (i * width) before, s.stored) }

  room : i * width + width ≤ length words
  room = omega (arith, g.room, s.long)

  pub place-fits : Fits w64 (i * 4)
  place-fits = omega (arith, g.inside, macros-few b)

  module _ {x : Extent} {after : List ℕ} (e : x ≡ extent_of (expansion (macros_in b) i)) (f : after ≡ stored_at words (i * width) x) where
    pub fill_on : FillSoFar b before after (i + 1)
    fill_on =
        record {
          long = ap length f ∙ stored-long words (i * width) x room ∙ s.long;
          stored = words-stored (extent_words_of (macros_in b)) width (wide (macros_in b)) i before words after s.stored
              (f ∙ stored-at words (i * width) x room ∙ ap (λ (v : Extent). take (i * width) words ++ (extent_words v ++ drop (i * width + width) words)) e);
        }

    -- the last one
    pub fill_done : m ≤ i → after ≡ words_over (extent_words_of (macros_in b)) width (suc m) before
    fill_done l = let all : i + 1 ≡ suc m = omega (arith, h) in rw all at fill_on.stored
