-- A book is well-formed exactly if each of its macros is sound, item by item; and it can be written in a version exactly if each item can.
use Prim.Native.Nat.{ℕ, zero, suc, ◌+◌, ◌<◌, ◌≤◌}
use native.Mathlib.Nat.{add-zero, add-suc, suc-add, zero-add}
use native.Mathlib.Omega.{arith}
use mathlib.Core.Path.{◌≡◌, refl}
use mathlib.Core.Logic.{◌↔◌, ⊎_elim}
use mathlib.Core.Bool.{Bool, true, false, ◌&&◌, cond}
use mathlib.Core.List.Memᴰ
use mathlib.Core.List.{List, [], ◌∷◌, Memᴰ}
use lib.Dec.{leb, eqb}
use lib.ListN.{length, get_or}
use borrow.Author.Tests.{leb-true, lt-ltb, le-leb, eqb-true, eq-eqb}
use Rattle.book.specs.declared.item.Item.{Item}
use Rattle.book.specs.declared.item.Item.TheVariants.{Key, Call}
use Rattle.book.specs.Format.{repeated, Macro, sound_target, sound_item, sound_items, sound_macro, sound_macros, well_formed, item_fits, items_fit, fits}
use Rattle.book.specs.declared.item.Repeated.{Repeated}
use Rattle.book.proofs.Expansion.{well-nonempty, well-short, well-key, well-call, well-times}
use Rattle.runs.specs.Keys.{is_key}
use Rattle.runs.proofs.Tests.{and_both, and_parts}

-- what the format asks of a key or a call in macro n
abbrev pub TargetSound : ℕ → Item → Type 0
TargetSound n (Key k) = is_key k ≡ true
TargetSound n (Call j) = j < n

-- of an item of macro n
pub record ItemSound (n : ℕ) (i : Repeated) : Type 0 where
  pub target : TargetSound n i.item
  pub some : 1 ≤ i.times

-- of macro n
pub record MacroSound (n : ℕ) (items : Macro) : Type 0 where
  pub some : 1 ≤ length items
  pub few : length items ≤ 64
  pub each : (i : Repeated) → Memᴰ i items → ItemSound n i

-- and of a book's macros
pub record BookSound (ms : List Macro) : Type 0 where
  pub some : 1 ≤ length ms
  pub few : length ms ≤ 1024
  pub each : (i : ℕ) → i < length ms → MacroSound i (get_or ms i [])

item_from : (n : ℕ) (i : Repeated) → ItemSound n i → sound_item n i ≡ true
unfolding sound_item sound_target
item_from n i s = and_both (sound_target n i.item) (leb 1 i.times) (target i.item s.target) (le-leb 1 i.times s.some)
  where
    target : (x : Item) → TargetSound n x → sound_target n x ≡ true
    target (Key k) h = h
    target (Call j) h = lt-ltb j n h

items-from : (n : ℕ) (is : Macro) → ((i : Repeated) → Memᴰ i is → ItemSound n i) → sound_items n is ≡ true
unfolding sound_items
items-from n [] e = refl
items-from n (i ∷ is) e = and_both (sound_item n i) (sound_items n is) (item_from n i (e i (Memᴰ.head refl))) (items-from n is (λ j c. e j (Memᴰ.tail c)))

macro-from : (n : ℕ) (m : Macro) → MacroSound n m → sound_macro n m ≡ true
unfolding sound_macro
macro-from n m s =
    and_both (leb 1 (length m)) (leb (length m) 64 && sound_items n m) (le-leb 1 (length m) s.some)
    (and_both (leb (length m) 64) (sound_items n m) (le-leb (length m) 64 s.few) (items-from n m s.each))

macros-from : (n : ℕ) (ms : List Macro) → ((i : ℕ) → i < length ms → MacroSound (n + i) (get_or ms i [])) → sound_macros n ms ≡ true
unfolding sound_macros
macros-from n [] e = refl
macros-from n (m ∷ ms) e =
    and_both (sound_macro n m) (sound_macros (suc n) ms) (macro-from n m (rw add-zero at (e 0 (omega arith))))
    (macros-from (suc n) ms (λ i l. rw (add-suc, ← suc-add) at (e (suc i) (omega arith))))

-- the two are one
pub well-iff : (ms : List Macro) → (well_formed ms ≡ true) ↔ BookSound ms
unfolding well_formed
well-iff ms = (
  λ h.
      let p = and_parts (leb 1 (length ms)) (leb (length ms) 1024 && sound_macros 0 ms) h in
      let q = and_parts (leb (length ms) 1024) (sound_macros 0 ms) p.1 in
      record {
        some = leb-true 1 (length ms) p.0;
        few = leb-true (length ms) 1024 q.0;
        each = λ i l. record { some = well-nonempty ms h i l; few = well-short ms h i; each = item h i };
      },
  λ s.
      and_both (leb 1 (length ms)) (leb (length ms) 1024 && sound_macros 0 ms) (le-leb 1 (length ms) s.some)
      (and_both (leb (length ms) 1024) (sound_macros 0 ms) (le-leb (length ms) 1024 s.few) (macros-from 0 ms (λ i l. rw zero-add (s.each i l)))),
)
  where
    target : well_formed ms ≡ true → (i : ℕ) (x : Item) (n : ℕ) → Memᴰ (repeated x n) (get_or ms i []) → TargetSound i x
    target h i (Key k) n c = well-key ms h i c
    target h i (Call j) n c = well-call ms h i c

    item : well_formed ms ≡ true → (i : ℕ) (x : Repeated) → Memᴰ x (get_or ms i []) → ItemSound i x
    item h i x c = record { target = target h i x.item x.times c; some = well-times ms h i c }

-- Items that can be written in a version.
items-fit : (version : ℕ) (is : Macro) → (items_fit version is ≡ true) ↔ ((i : Repeated) → Memᴰ i is → item_fits version i ≡ true)
unfolding items_fit
items-fit version [] = (λ e i c. absurd (Memᴰ.not-nil c), λ e. refl)
items-fit version (x ∷ is) = (
  λ e i c. let (one, others) = and_parts (item_fits version x) (items_fit version is) e in ⊎_elim (λ s. rw s one) ((items-fit version is).0 others i) (Memᴰ.cases_cons c),
  λ e. and_both (item_fits version x) (items_fit version is) (e x (Memᴰ.head refl)) ((items-fit version is).1 (λ i c. e i (Memᴰ.tail c))),
)

-- each item of each macro
pub fits_iff : (version : ℕ) (ms : List Macro) → (fits version ms ≡ true) ↔ ((m : ℕ) (i : Repeated) → Memᴰ i (get_or ms m []) → item_fits version i ≡ true)
unfolding fits
fits_iff version [] = (λ e m i c. absurd (Memᴰ.not-nil c), λ e. refl)
fits_iff version (x ∷ ms) = (
  λ e m. let (one, others) = and_parts (items_fit version x) (fits version ms) e in at one ((fits_iff version ms).0 others) m,
  λ e. and_both (items_fit version x) (fits version ms) ((items-fit version x).1 (e 0)) ((fits_iff version ms).1 (λ m. e (suc m))),
)
  where
    at : items_fit version x ≡ true → ((m : ℕ) (i : Repeated) → Memᴰ i (get_or ms m []) → item_fits version i ≡ true) → (m : ℕ) (i : Repeated) → Memᴰ i (get_or (x ∷ ms) m []) → item_fits version i ≡ true
    at one others zero = (items-fit version x).0 one
    at one others (suc m) = others m

-- it rests on the repeat count alone
pub fits-alike : (version : ℕ) (i k : Repeated) → i.times ≡ k.times → item_fits version i ≡ item_fits version k
unfolding item_fits
fits-alike version i k e = rw e refl

-- an item that stands there once can be written in each version
pub once-fits : (version : ℕ) (x : Item) → item_fits version (repeated x 1) ≡ true
unfolding item_fits
once-fits version x = go (eqb version 1)
  where
    go : (t : Bool) → cond t true true ≡ true
    go true = refl
    go false = refl

-- "a version 1 item stands once"
pub fits-once : (i : Repeated) → (item_fits 1 i ≡ true) ↔ (i.times ≡ 1)
unfolding item_fits
fits-once i = (eqb-true i.times 1, eq-eqb i.times 1)

-- so what can be written in version 1 can be written in version 2
pub one-fits-two : (ms : List Macro) → fits 1 ms ≡ true → fits 2 ms ≡ true
unfolding item_fits
one-fits-two ms h = (fits_iff 2 ms).1 (λ m i c. two i ((fits-once i).0 ((fits_iff 1 ms).0 h m i c)))
  where
    two : (i : Repeated) → i.times ≡ 1 → item_fits 2 i ≡ true
    two i e = le-leb i.times 65535 (omega arith)
