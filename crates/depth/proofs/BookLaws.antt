-- A book's macros in turn: the items of one, and the words of all.
use Prim.Native.Nat.{ℕ, suc, ◌+◌, ◌*◌, ◌<◌, ◌≤◌}
use native.Mathlib.Omega.{arith}
use mathlib.Core.Path.{◌≡◌, sym, ap, subst, ◌∙◌}
use mathlib.Core.Bool.{true}
use mathlib.Core.List.{List, [], ◌++◌, Memᴰ}
use lib.ListN.{length, get_or, take, drop, length-append}
use lib.Seq.{take_all}
use Rattle.runs.specs.Kept.{first_words, times, words_over}
use Rattle.runs.proofs.KeptLaws.{words-length, words-at, words-stored}
use Rattle.book.specs.declared.item.Item.{Item}
use Rattle.book.specs.declared.item.Item.TheVariants.{Key, Call}
use Rattle.book.specs.declared.macro_items.Items.{Items}
use Rattle.book.specs.Format.{Macro, repeated, well_formed}
use Rattle.book.specs.Expansion.{keys_of, expand, unrolled, expansion}
use Rattle.book.specs.Reading.{macros_in}
use Rattle.std.specs.Prelude.{Some, slice_get}
use Rattle.std.proofs.lemmas.Option.{slice_get-get_or}
use Rattle.book.specs.declared.item.Repeated.{Repeated}
use Rattle.book.specs.MacroItems.{items_from, decoded}
use Rattle.book.proofs.MacroItems.{item-in, item-more, items-are}
use Rattle.book.proofs.LayoutLaws.{well-in}
use Rattle.book.proofs.Expansion.{well-call, well-times, unrolled-none, expand-none, expand-more, expansion-law}
use Rattle.depth.specs.declared.unmatched.Delimiters.{Delimiters}
use Rattle.depth.specs.declared.unmatched.Unmatched.{Unmatched}
use Rattle.depth.specs.Answer.{width, macro_words, filled}
use Rattle.depth.specs.Promises.{unmatched_in, Sized, followed, times_unmatched, loaded_at, words_of, stored_at, item_unmatched, InWords, MacroAt, BookFits}
use Rattle.depth.proofs.UnmatchedLaws.{run_none, run-key, run-append, run-times, run-sized, run-words, run-loaded, words-wide}

-- The words of macros.
module _ (keys : Delimiters) (ms : List Macro) where
  abbrev W : ℕ → List ℕ
  W = macro_words keys.opening keys.closing ms

  wide : (i : ℕ) → length (W i) ≡ width
  wide i = words-wide keys.opening keys.closing (expansion ms i)

  abbrev kept : List ℕ → Unmatched
  kept w = unmatched_in keys.opening keys.closing w

  -- of some items
  abbrev pub kept_items : Macro → Unmatched
  kept_items is = kept (expand (λ j. expansion ms j) (unrolled is))

  pub items-none : record { length = 0; closings = 0; openings = 0 } ≡ kept_items []
  items-none = sym (run_none keys.opening keys.closing) ∙ ap kept (sym (ap (expand (λ j. expansion ms j)) unrolled-none ∙ expand-none (λ j. expansion ms j)))

  pub all-sized : {all : Unmatched} (is : Macro) → all ≡ kept_items is → Sized all
  all-sized is e = rw e (run-sized keys.opening keys.closing (expand (λ j. expansion ms j) (unrolled is)))

-- The items of macro i.
module _ {keys : Delimiters} {b offsets : List ℕ} {i : ℕ} {work : List ℕ} (x : MacroAt keys b offsets i work) where
  abbrev ms : List Macro
  ms = macros_in b

  well : well_formed ms ≡ true
  well = well-in b x.inside

  -- an item's keys: a key itself, or the run of a lower macro, whose words stand in front
  abbrev keys_at : Item → List ℕ
  keys_at item = keys_of (λ j. expansion ms j) item

  lower-room : (j : ℕ) → j < i → j * width + width ≤ length work
  lower-room j h = rw (x.below, length-append (first_words (W keys ms) i) x.behind, words-length (W keys ms) width (wide keys ms) i) (omega arith)

  lower-run : (j : ℕ) → j < i → loaded_at work (j * width) ≡ kept keys ms (expansion ms j)
  lower-run j h =
      let there = words-at (W keys ms) width (wide keys ms) i j h x.behind in
      run-loaded keys.opening keys.closing (expansion ms j) work there.0 (j * width) (ap (drop (j * width)) x.below ∙ there.1)

  ready : (item : Item) (n : ℕ) → Memᴰ (repeated item n) (get_or ms i []) → InWords work item
  unfolding InWords
  ready (Key k) n m = tt
  ready (Call j) n m = lower-room j (well-call ms well i m)

  item-run : (item : Item) (n : ℕ) → Memᴰ (repeated item n) (get_or ms i []) → item_unmatched keys work item ≡ kept keys ms (keys_at item)
  unfolding item_unmatched
  item-run (Key k) n m = sym (run-key keys.opening keys.closing x.apart k)
  item-run (Call j) n m = lower-run j (well-call ms well i m)

  -- in turn
  module _ {read : Items} (e : read ≡ items_from b offsets i) {items : Macro} (f : items ≡ decoded read) where
    items-is : items ≡ get_or ms i []
    items-is = f ∙ ap decoded e ∙ items-are b offsets i x.table x.inside

    pub items-done : {all : Unmatched} {k : ℕ} → length items ≤ k → all ≡ kept_items keys ms (take k items) → all ≡ kept keys ms (expansion ms i)
    items-done {all} {k} h s = s ∙ ap (kept_items keys ms) (take_all k items h ∙ items-is) ∙ ap (kept keys ms) (sym (expansion-law ms well i))

    module _ {k : ℕ} (h : k < length items) where
      abbrev next : Repeated
      next = get_or items k (repeated (Key 0) 0)

      there : slice_get items k ≡ Some next
      there = slice_get-get_or items k (repeated (Key 0) 0) h

      among : Memᴰ (repeated next.item next.times) (get_or ms i [])
      among = subst (Memᴰ next) items-is (item-in items k there)

      pub item-ready : InWords work next.item
      item-ready = ready next.item next.times among

      pub item-stands : 1 ≤ next.times
      item-stands = well-times ms well i among

      module _ {this : Unmatched} (g : this ≡ item_unmatched keys work next.item) where
        this-run : this ≡ kept keys ms (keys_at next.item)
        this-run = g ∙ item-run next.item next.times among

        pub this-sized : Sized this
        this-sized = rw this-run (run-sized keys.opening keys.closing (keys_at next.item))

        module _ {passes : Unmatched} (p : passes ≡ times_unmatched next.times this) where
          passes-run : passes ≡ kept keys ms (times next.times (keys_at next.item))
          passes-run = p ∙ ap (times_unmatched next.times) this-run ∙ run-times keys.opening keys.closing (keys_at next.item) next.times item-stands

          pub passes-sized : Sized passes
          passes-sized = rw passes-run (run-sized keys.opening keys.closing (times next.times (keys_at next.item)))

          pub items-on : {all both : Unmatched} → all ≡ kept_items keys ms (take k items) → both ≡ followed all passes → both ≡ kept_items keys ms (take (k + 1) items)
          items-on {all} {both} s l =
              let w = expand (λ j. expansion ms j) (unrolled (take k items)) in
              l
              ∙ ap (λ (u : Unmatched). followed u passes) s
              ∙ ap (followed (kept keys ms w)) passes-run
              ∙ sym (run-append keys.opening keys.closing w (times next.times (keys_at next.item)))
              ∙ ap (kept keys ms) (sym (expand-more (λ j. expansion ms j) (take k items) next))
              ∙ ap (kept_items keys ms) (sym (item-more items k there))

-- The words of macros 0 to m, where those of the first i stand over the front of the work words.
module _ {keys : Delimiters} {b offsets : List ℕ} {m : ℕ} {before : List ℕ} (g : BookFits keys b offsets m before) {i : ℕ} (h : i ≤ m) {work : List ℕ} (s : work ≡ words_over (W keys (macros_in b)) width i before) where
  pub macro-at : MacroAt keys b offsets i work
  macro-at = record { table = g.table; inside = omega (arith, g.inside); apart = g.apart; behind = drop (i * width) before; below = s }

  -- one macro more, and the last one
  module _ {u : Unmatched} {after : List ℕ} (e : u ≡ kept keys (macros_in b) (expansion (macros_in b) i)) (f : after ≡ stored_at work (i * width) u) where
    pub fill-on : after ≡ words_over (W keys (macros_in b)) width (i + 1) before
    fill-on =
        words-stored (W keys (macros_in b)) width (wide keys (macros_in b)) i before work after s
        (f ∙ ap (λ (v : List ℕ). take (i * width) work ++ (v ++ drop (i * width + width) work)) (ap words_of e ∙ run-words keys.opening keys.closing (expansion (macros_in b) i)))

    pub fill-last : m ≤ i → after ≡ filled keys.opening keys.closing (macros_in b) m before
    fill-last l = let all : i + 1 ≡ suc m = omega arith in rw all at fill-on
