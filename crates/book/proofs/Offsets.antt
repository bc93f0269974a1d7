-- Where the macros that were read stand among the bytes.
use Prim.Native.Nat.{ℕ, zero, suc, ◌+◌, ◌-◌, ◌*◌, ◌<◌, ◌≤◌}
use native.Mathlib.Nat.{add-zero, add-suc, suc-add, zero-add}
use native.Mathlib.Omega.{arith}
use mathlib.Core.Path.{◌≡◌, refl, sym, ap, ◌∙◌}
use mathlib.Core.Bool.{Bool, true, false, cond, ◌&&◌, and-eq-true_iff}
use mathlib.Core.List.{List, [], ◌∷◌, ◌++◌}
use lib.Dec.{leb, ltb, eqb}
use lib.ListN.{length, drop, get_or, length-drop, drop_of_length-le}
use lib.Seq.{drop-drop}
use borrow.Author.Tests.{ltb-true, ltb-false, leb-true, eqb-true, eqb-false, le-leb, le-ltb}
use Rattle.refusal.specs.declared.Refusal.TheVariants.{MalformedBody, InvalidKey, ForwardReference}
use Rattle.book.specs.declared.item.Item.{Item}
use Rattle.book.specs.declared.item.Item.TheVariants.{Key, Call}
use Rattle.book.specs.Reading.{got, item_of, le16, times_in, check_times, check_item, read_item, read_items, read_macro, read_macros, has_magic, read_header, version_in, at_end, read_all, read_in}
use Rattle.book.specs.Format.{repeated, Macro, sound_target, sound_item, width}
use Rattle.book.specs.declared.item.Repeated.{Repeated}
use Rattle.book.specs.MacroItems.{front_item, front_items}
use Rattle.book.specs.Offset.{size, starts, start_of, offset}
use Rattle.runs.specs.Keys.{member}
use Rattle.runs.proofs.Tests.{and_both}
use Rattle.book.proofs.Header.{header-got}
use Rattle.book.proofs.Readings.{test-got, untest-got, next-got, more-got}
use Rattle.book.proofs.Walks.{item-got, times-got}

-- k items take their bytes
pub items-got : (version n k : ℕ) (b rest : List ℕ) (is : Macro) → read_items version n k b ≡ got is rest → (length is ≡ k) × (rest ≡ drop (width version * k) b) × (width version * k ≤ length b)
unfolding read_items
items-got version n zero b rest is e = let f : is ≡ [] = cc in let none : width version * 0 ≡ 0 = omega arith in (ap length f, rw none (cc), omega arith)
items-got version n (suc k) b rest is e =
    let (i, js, mid, same, one, others) = more-got (read_item version n b) (read_items version n k) is rest e in
    let (there, room) = item-got version n b mid i one in
    let (long, last, fits) = items-got version n k mid rest js others in
    let count : width version * suc k ≡ width version + width version * k = omega arith in
    let less : length mid ≡ length b - width version = rw there (length-drop (width version) b) in
    (rw same (ap suc long), rw count (last ∙ rw (there, drop-drop)), omega arith)

-- what a macro that was read has: its count, from 1 to 64, and that many items
pub macro-parts : (version n : ℕ) (b rest : List ℕ) (m : Macro) → read_macro version n b ≡ got m rest → (2 ≤ length b) × (1 ≤ le16 b) × (le16 b ≤ 64) × (read_items version n (le16 b) (drop 2 b) ≡ got m rest)
unfolding read_macro
macro-parts version n b rest m e =
    let (two, f) = untest-got _ _ _ m rest e in
    let (both, items) = test-got _ _ _ m rest f in
    let (low, high) = (and-eq-true_iff (leb 1 (le16 b)) (leb (le16 b) 64)).0 both in
    (ltb-false _ _ two, leb-true _ _ low, leb-true _ _ high, items)

-- it took its size
pub macro-got : (version n : ℕ) (b rest : List ℕ) (m : Macro) → read_macro version n b ≡ got m rest → (rest ≡ drop (size (width version) m) b) × (size (width version) m ≤ length b) × (length m ≤ 64)
macro-got version n b rest m e =
    let (two, low, high, items) = macro-parts version n b rest m e in
    let (count, last, fits) = items-got version n (le16 b) (drop 2 b) rest m items in
    let long : width version * le16 b ≤ length b - 2 = rw length-drop at fits in
    (last ∙ rw (drop-drop, count), rw count (omega arith), omega arith)

-- an item that was read is what its numbers stand for, and sound
checked-is : (n c t : ℕ) (b rest : List ℕ) (i : Repeated) → check_item n (item_of c) t b ≡ got i rest → (repeated (item_of c) t ≡ i) × (sound_item n i ≡ true)
unfolding sound_item sound_target
checked-is n c t b rest i e = go (ltb c 256) refl e
  where
    often : (x : Item) → sound_target n x ≡ true → check_times x t b ≡ got i rest → (repeated x t ≡ i) × (sound_target n i.item && leb 1 i.times ≡ true)
    often x s f =
        let (some, same, behind) = times-got x t b rest i f in
        let low : 1 ≤ t = omega (arith, eqb-false t 0 some) in
        (same, rw (← same) (and_both (sound_target n x) (leb 1 t) s (le-leb _ _ low)))

    go : (x : Bool) → ltb c 256 ≡ x → check_item n (cond x (Key c) (Call (c - 256))) t b ≡ got i rest → (repeated (cond x (Key c) (Call (c - 256))) t ≡ i) × (sound_target n i.item && leb 1 i.times ≡ true)
    go true small f =
        let (some, g) = untest-got (eqb c 0) (check_times (Key c) t b) InvalidKey i rest f in
        let low : 1 ≤ c = omega (arith, eqb-false c 0 some) in
        let high : c ≤ 255 = omega (arith, ltb-true c 256 small) in
        often (Key c) (and_both (leb 1 c) (leb c 255) (le-leb _ _ low) (le-leb _ _ high)) g
    go false large f =
        let (lower, g) = test-got (ltb (c - 256) n) (check_times (Call (c - 256)) t b) ForwardReference i rest f in
        often (Call (c - 256)) lower g

pub item-is : (version n : ℕ) (b rest : List ℕ) (i : Repeated) → read_item version n b ≡ got i rest → (front_item version b ≡ i) × (sound_item n i ≡ true)
unfolding read_item
item-is version n b rest i e =
    checked-is n (le16 b) (times_in version b) (drop (width version) b) rest i
    (untest-got (ltb (length b) (width version)) (check_item n (item_of (le16 b)) (times_in version b) (drop (width version) b)) MalformedBody i rest e).1

-- items that were read are these
items-front : (version n k : ℕ) (b rest : List ℕ) (is : Macro) → read_items version n k b ≡ got is rest → front_items version k b ≡ is
unfolding read_items front_items
items-front version n zero b rest is e = cc
items-front version n (suc k) b rest is e =
    let (i, js, mid, same, one, others) = more-got (read_item version n b) (read_items version n k) is rest e in
    let (there, room) = item-got version n b mid i one in
    let f : front_items version k (drop (width version) b) ≡ js = rw (← there) (items-front version n k mid rest js others) in
    cc (item-is version n b mid i one).0

-- and so are a macro's, which stand behind its count
macro-front : (version n : ℕ) (b rest : List ℕ) (m : Macro) → read_macro version n b ≡ got m rest → front_items version (length m) (drop 2 b) ≡ m
macro-front version n b rest m e =
    let (two, low, high, items) = macro-parts version n b rest m e in
    let (count, last, fits) = items-got version n (le16 b) (drop 2 b) rest m items in
    rw count (items-front version n (le16 b) (drop 2 b) rest m items)

-- the first macro starts where the macros do
starts_first : (wide at : ℕ) (ms : List Macro) → get_or (starts wide at ms) 0 0 ≡ at
unfolding starts
starts_first wide at [] = refl
starts_first wide at (m ∷ ms) = refl

-- there is one place more than there are macros
pub starts-length : (wide at : ℕ) (ms : List Macro) → length (starts wide at ms) ≡ length ms + 1
unfolding starts
starts-length wide at [] = refl
starts-length wide at (m ∷ ms) = let h : length (starts wide (at + size wide m) ms) ≡ length ms + 1 = starts-length wide (at + size wide m) ms in omega arith

-- a macro ends where the next one starts
starts-next : (wide at : ℕ) (ms : List Macro) (i : ℕ) → i < length ms → get_or (starts wide at ms) (i + 1) 0 ≡ get_or (starts wide at ms) i 0 + size wide (get_or ms i [])
unfolding starts
starts-next wide at [] i h = absurd (omega arith)
starts-next wide at (m ∷ ms) zero h = starts_first wide (at + size wide m) ms
starts-next wide at (m ∷ ms) (suc i) h = rw (suc-add i 1) (starts-next wide (at + size wide m) ms i (omega arith))

-- one macro more starts where the last one ended
pub starts_more : (wide at : ℕ) (ms : List Macro) (m : Macro) → starts wide at (ms ++ (m ∷ [])) ≡ starts wide at ms ++ ((get_or (starts wide at ms) (length ms) 0 + size wide m) ∷ [])
unfolding starts
starts_more wide at [] m = refl
starts_more wide at (n ∷ ms) m = ap (λ (l : List ℕ). at ∷ l) (starts_more wide (at + size wide n) ms m)

-- some macros were read from `at` on: the first, and then the others behind it
record Stepped (version : ℕ) (s : List ℕ) (n k at : ℕ) (ms : List Macro) (rest : List ℕ) : Type 0 where
  pub first : Macro
  pub others : List Macro
  pub all : ms ≡ first ∷ others
  pub here : read_macro version n (drop at s) ≡ got first (drop (at + size (width version) first) s)
  pub fits : size (width version) first ≤ length s - at
  pub behind : read_macros version (suc n) k (drop (at + size (width version) first) s) ≡ got others rest

-- what is left stands behind the last one
record Ended (wide : ℕ) (s : List ℕ) (k at : ℕ) (ms : List Macro) (rest : List ℕ) : Type 0 where
  pub count : length ms ≡ k
  pub left : rest ≡ drop (start_of wide at ms (length ms)) s
  pub fits : start_of wide at ms (length ms) ≤ length s

module _ (version : ℕ) (s : List ℕ) where
  step : (n k at : ℕ) (ms : List Macro) (rest : List ℕ) → read_macros version n (suc k) (drop at s) ≡ got ms rest → Stepped version s n k at ms rest
  unfolding read_macros
  step n k at ms rest e =
      let (m, ns, mid, same, one, others) = more-got (read_macro version n (drop at s)) (read_macros version (suc n) k) ms rest e in
      let (there, fits, few) = macro-got version n (drop at s) mid m one in
      let behind : mid ≡ drop (at + size (width version) m) s = there ∙ drop-drop (size (width version) m) at s in
      record { first = m; others = ns; all = same; here = rw (← behind) one; fits = rw length-drop at fits; behind = rw (← behind) others }

  -- macro i of those that start at `at` with number n was read at its place, and ended at the next one's
  abbrev ReadAt : ℕ → ℕ → List Macro → ℕ → Type 0
  ReadAt n at ms i = read_macro version (n + i) (drop (start_of (width version) at ms i) s) ≡ got (get_or ms i []) (drop (start_of (width version) at ms (i + 1)) s)

  -- and so was each
  module _ (rest : List ℕ) where
    macros-at : (n k at : ℕ) (ms : List Macro) → read_macros version n k (drop at s) ≡ got ms rest → (i : ℕ) → i < length ms → ReadAt n at ms i
    unfolding read_macros starts
    macros-at n zero at ms e i h = let none : ms ≡ [] = cc in absurd (omega (arith, ap length none))
    macros-at n (suc k) at ms e zero h =
        let x = step n k at ms rest e in
        rw (x.all, add-zero n, starts_first (width version) (at + size (width version) x.first) x.others) x.here
    macros-at n (suc k) at ms e (suc i) h =
        let x = step n k at ms rest e in
        let less : i < length x.others = omega (arith, ap length x.all) in
        rw (x.all, suc-add i 1, add-suc n i, ← suc-add n i) (macros-at (suc n) k (at + size (width version) x.first) x.others x.behind i less)

  macros-got : (n k at : ℕ) (ms : List Macro) (rest : List ℕ) → at ≤ length s → read_macros version n k (drop at s) ≡ got ms rest → Ended (width version) s k at ms rest
  unfolding read_macros starts
  macros-got n zero at ms rest h e = let none : ms ≡ [] = cc in rw none (record { count = refl; left = cc; fits = h })
  macros-got n (suc k) at ms rest h e =
      let x = step n k at ms rest e in
      let d = macros-got (suc n) k (at + size (width version) x.first) x.others rest (omega (arith, x.fits)) x.behind in
      rw x.all (record { count = ap suc d.count; left = d.left; fits = d.fits })

-- what a book that was read has: its header, and its macros up to the end
pub record Whole (taken b : List ℕ) (ms : List Macro) (rest : List ℕ) : Type 0 where
  pub long : 7 ≤ length b
  pub magic : has_magic b ≡ true
  pub version : le16 (drop 3 b) ≡ version_in b
  pub known : member (version_in b) taken ≡ true
  pub count : le16 (drop 5 b) ≡ length ms
  pub some : 1 ≤ length ms
  pub few : length ms ≤ 1024
  pub macros : read_macros (version_in b) 0 (length ms) (drop 7 b) ≡ got ms []
  pub end : rest ≡ []

-- the version where there are bytes enough for a header
pub version-there : (b : List ℕ) → 7 ≤ length b → le16 (drop 3 b) ≡ version_in b
unfolding version_in
version-there b h = let long : 5 ≤ length b = omega arith in rw (le-ltb (length b) 5 long) refl

-- a book that was read has these
pub whole : (taken b : List ℕ) (ms : List Macro) (rest : List ℕ) → read_in taken b ≡ got ms rest → Whole taken b ms rest
unfolding read_in read_all
whole taken b ms rest e =
    let v = version_in b in
    let (k, mid, head, e1) = next-got (read_header taken b) (λ k. read_all v k) ms rest e in
    let (ns, left, all, e2) = next-got (read_macros v 0 k mid) (λ ns. at_end ns) ms rest e1 in
    let (none, e3) = test-got (eqb (length left) 0) (got ns left) MalformedBody ms rest e2 in
    let h = header-got taken b k mid head in
    let there = h.behind in
    let same : ns ≡ ms = cc in
    let empty : left ≡ [] = drop_of_length-le left {i = 0} (omega (arith, eqb-true (length left) 0 none)) in
    let read : read_macros v 0 k (drop 7 b) ≡ got ms [] = cc in
    let size = (macros-got v b 0 k 7 ms [] h.long read).count in
    record {
      long = h.long;
      magic = h.magic;
      version = version-there b h.long;
      known = ap (λ (x : ℕ). member x taken) (sym (version-there b h.long)) ∙ h.version;
      count = h.count ∙ sym size;
      some = omega (arith, h.some);
      few = omega (arith, h.few);
      macros = rw size read;
      end = cc;
    }

module _ (taken b : List ℕ) (ms : List Macro) (rest : List ℕ) (e : read_in taken b ≡ got ms rest) where
  -- where a sound book ends, and how many macros it has
  pub book-end : (offset (version_in b) ms (length ms) ≡ length b) × (rest ≡ []) × (1 ≤ length ms) × (length ms ≤ 1024)
  book-end =
      let w = whole taken b ms rest e in
      let d = macros-got (version_in b) b 0 (length ms) 7 ms [] w.long w.macros in
      let none : 0 ≡ length b - offset (version_in b) ms (length ms) = ap length d.left ∙ length-drop (offset (version_in b) ms (length ms)) b in
      (omega (arith, d.fits), w.end, w.some, w.few)

  module _ (i : ℕ) (h : i < length ms) where
    -- macro i was read at its place
    pub book-at : read_macro (version_in b) i (drop (offset (version_in b) ms i) b) ≡ got (get_or ms i []) (drop (offset (version_in b) ms (i + 1)) b)
    book-at =
        let w = whole taken b ms rest e in
        rw zero-add at (macros-at (version_in b) b [] 0 (length ms) 7 ms w.macros i h)

    -- it ends where the next one starts, inside the book
    pub book-offsets : (offset (version_in b) ms (i + 1) ≡ offset (version_in b) ms i + size (width (version_in b)) (get_or ms i [])) × (offset (version_in b) ms (i + 1) ≤ length b)
    book-offsets =
        let next : offset (version_in b) ms (i + 1) ≡ offset (version_in b) ms i + size (width (version_in b)) (get_or ms i []) = starts-next (width (version_in b)) 7 ms i h in
        let (there, fits, few) = macro-got (version_in b) i (drop (offset (version_in b) ms i) b) (drop (offset (version_in b) ms (i + 1)) b) (get_or ms i []) book-at in
        let room : size (width (version_in b)) (get_or ms i []) ≤ length b - offset (version_in b) ms i = rw length-drop at fits in
        (next, omega arith)

    -- it has 64 items at the most
    pub book-few : length (get_or ms i []) ≤ 64
    book-few = (macro-got (version_in b) i (drop (offset (version_in b) ms i) b) (drop (offset (version_in b) ms (i + 1)) b) (get_or ms i []) book-at).2

    -- and they stand behind its count
    pub book-front : front_items (version_in b) (length (get_or ms i [])) (drop (offset (version_in b) ms i + 2) b) ≡ get_or ms i []
    book-front =
        rw (← drop-drop 2 (offset (version_in b) ms i) b)
        (macro-front (version_in b) i (drop (offset (version_in b) ms i) b) (drop (offset (version_in b) ms (i + 1)) b) (get_or ms i []) book-at)
