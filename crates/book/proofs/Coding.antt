-- Reading and encoding undo one another, in each version: a book is sound exactly if it is the encoding of well-formed macros.
use Prim.Native.Nat.{ℕ, zero, suc, ◌+◌, ◌-◌, ◌*◌, ◌/◌, ◌%◌, ◌<◌, ◌≤◌}
use native.Mathlib.Omega.{arith}
use mathlib.Core.Path.{◌≡◌, refl, sym, ap, ◌∙◌}
use mathlib.Core.Logic.{◌↔◌}
use mathlib.Core.Bool.{Bool, true, false, ◌&&◌, cond, and-eq-true_iff}
use mathlib.Core.List.{List, [], ◌∷◌, ◌++◌, append_assoc, append-nil}
use lib.Dec.{leb, ltb, eqb}
use lib.ListN.{length, drop, get_or, length-drop, length-append}
use lib.Seq.{drop-drop, get_or-drop, take_at}
use borrow.Author.Tests.{ltb-true, ltb-false, leb-true, eqb-true, lt-ltb, le-ltb, le-leb, ne_eqb}
use Rattle.refusal.specs.declared.Refusal.TheVariants.{UnsupportedVersion}
use Rattle.book.specs.declared.item.Item.{Item}
use Rattle.book.specs.declared.item.Item.TheVariants.{Key, Call}
use Rattle.book.specs.Reading.{got, refused, item_of, le16, times_in, check_item, read_item, read_items, read_macro, read_macros, has_magic, read_header, version_in, read_all, read_in, read_book}
use Rattle.book.specs.Format.{Encodes, SoundIn, Sound, versions, repeated, Macro, le16_bytes, code, magic, encode_item, encode_items, encode_macros, encode, sound_target, sound_item, sound_items, sound_macro, sound_macros, well_formed, item_fits, items_fit, fits, width}
use Rattle.book.specs.declared.item.Repeated.{Repeated}
use Rattle.book.specs.Offset.{size, offset, body_part}
use Rattle.book.proofs.Readings.{more-got, same-got}
use Rattle.book.proofs.Walks.{item-got}
use Rattle.book.proofs.WellFormed.{one-fits-two}
use Rattle.book.specs.MacroItems.{front_item}
use Rattle.book.proofs.Offsets.{items-got, macro-parts, item-is, macro-got, whole, version-there, book-at}
use Rattle.runs.specs.Keys.{Bytes, member}
use Rattle.runs.proofs.Tests.{and_both, and_parts, by-test}

-- items that were read are sound
items-sound : (version n k : ℕ) (b rest : List ℕ) (is : Macro) → read_items version n k b ≡ got is rest → sound_items n is ≡ true
unfolding read_items sound_items
items-sound version n zero b rest is e = let none : is ≡ [] = cc in rw none
items-sound version n (suc k) b rest is e =
    let (i, js, mid, same, one, others) = more-got (read_item version n b) (read_items version n k) is rest e in
    rw (same, (item-is version n b mid i one).1) (items-sound version n k mid rest js others)

-- a macro that was read is sound
macro-sound : (version n : ℕ) (b rest : List ℕ) (m : Macro) → read_macro version n b ≡ got m rest → sound_macro n m ≡ true
unfolding sound_macro
macro-sound version n b rest m e =
    let (two, low, high, items) = macro-parts version n b rest m e in
    let (count, last, room) = items-got version n (le16 b) (drop 2 b) rest m items in
    rw (count, le-leb _ _ low, le-leb _ _ high) (items-sound version n (le16 b) (drop 2 b) rest m items)

-- and so are macros
macros-sound : (version n k : ℕ) (b rest : List ℕ) (ms : List Macro) → read_macros version n k b ≡ got ms rest → sound_macros n ms ≡ true
unfolding read_macros sound_macros
macros-sound version n zero b rest ms e = let none : ms ≡ [] = cc in rw none
macros-sound version n (suc k) b rest ms e =
    let (m, ns, mid, same, one, others) = more-got (read_macro version n b) (read_macros version (suc n) k) ms rest e in
    rw (same, macro-sound version n b mid m one) (macros-sound version (suc n) k mid rest ns others)

-- the macros of a book that was read are well-formed
pub read-well : (taken b : List ℕ) (ms : List Macro) (rest : List ℕ) → read_in taken b ≡ got ms rest → well_formed ms ≡ true
unfolding well_formed
read-well taken b ms rest e =
    let w = whole taken b ms rest e in
    rw (le-leb _ _ w.some, le-leb _ _ w.few) (macros-sound (version_in b) 0 (length ms) (drop 7 b) [] ms w.macros)

-- a part of some bytes is bytes
bytes_drop : (k : ℕ) (b : List ℕ) → Bytes b → Bytes (drop k b)
bytes_drop k b h i = rw get_or-drop (h (k + i))

-- the number at the front of some bytes, written again
word_number : (b : List ℕ) → Bytes b → 2 ≤ length b → le16_bytes (le16 b) ++ drop 2 b ≡ b
word_number [] h l = absurd (omega arith)
word_number (x ∷ []) h l = absurd (omega arith)
word_number (x ∷ y ∷ b) h l =
    let small : x < 256 = h 0 in
    let low : (x + 256 * y) % 256 ≡ x = omega arith in
    let high : (x + 256 * y) / 256 ≡ y = omega arith in
    rw (low, high)

-- and so inside some bytes
word_at : (b : List ℕ) → Bytes b → (k : ℕ) → k + 2 ≤ length b → drop k b ≡ le16_bytes (le16 (drop k b)) ++ drop (k + 2) b
word_at b h k l =
    let two : 2 ≤ length (drop k b) = rw length-drop (omega arith) in
    rw (← drop-drop 2 k b) (sym (word_number (drop k b) (bytes_drop k b h) two))

-- an item's code is the number that it was read from
code-item : (c : ℕ) → code (item_of c) ≡ c
code-item c = go (ltb c 256) refl
  where
    go : (t : Bool) → ltb c 256 ≡ t → code (cond t (Key c) (Call (c - 256))) ≡ c
    go true h = refl
    go false h = omega (arith, ltb-false c 256 h)

-- a number of two bytes
le16-small : (b : List ℕ) → Bytes b → le16 b ≤ 65535
le16-small b h = omega (arith, h 0, h 1)

-- The item at the front of some bytes: it can be written in their version, and is then these bytes again.
module _ (b : List ℕ) (h : Bytes b) (version : ℕ) where
  front_fits : item_fits version (front_item version b) ≡ true
  unfolding item_fits times_in
  front_fits = go (eqb version 1)
    where
      go : (t : Bool) → cond t (eqb (cond t 1 (le16 (drop 2 b))) 1) (leb (cond t 1 (le16 (drop 2 b))) 65535) ≡ true
      go true = refl
      go false = le-leb _ _ (le16-small (drop 2 b) (bytes_drop 2 b h))

  front-encode : width version ≤ length b → encode_item version (front_item version b) ++ drop (width version) b ≡ b
  unfolding encode_item times_in width
  front-encode = rw (code-item (le16 b)) (go (eqb version 1))
    where
      go : (t : Bool) → cond t 2 4 ≤ length b → (le16_bytes (le16 b) ++ cond t [] (le16_bytes (cond t 1 (le16 (drop 2 b))))) ++ drop (cond t 2 4) b ≡ b
      go true l = word_number b h l
      go false l =
          let two : 2 ≤ length b = omega arith in
          let more : 2 ≤ length (drop 2 b) = rw length-drop (omega arith) in
          let rest : le16_bytes (le16 (drop 2 b)) ++ drop 4 b ≡ drop 2 b = ap (λ (l : List ℕ). le16_bytes (le16 (drop 2 b)) ++ l) (sym (drop-drop 2 2 b)) ∙ word_number (drop 2 b) (bytes_drop 2 b h) more in
          ap (λ (l : List ℕ). le16_bytes (le16 b) ++ l) rest ∙ word_number b h two

-- items that were read can be written in the version; and they and what is left, written again
items-encode : (version n k : ℕ) (b rest : List ℕ) (is : Macro) → Bytes b → read_items version n k b ≡ got is rest → (items_fit version is ≡ true) × (encode_items version is ++ rest ≡ b)
unfolding read_items encode_items items_fit
items-encode version n zero b rest is h e = let none : is ≡ [] = cc in rw none (refl, cc)
items-encode version n (suc k) b rest is h e =
    let (i, js, mid, same, one, others) = more-got (read_item version n b) (read_items version n k) is rest e in
    let (there, room) = item-got version n b mid i one in
    let item = (item-is version n b mid i one).0 in
    let byte : Bytes mid = rw there (bytes_drop (width version) b h) in
    let (fit, more) = items-encode version n k mid rest js byte others in
    (rw same (and_both (item_fits version i) (items_fit version js) (rw (← item) (front_fits b h version)) fit), rw (same, append_assoc (encode_item version i) (encode_items version js) rest, more, ← item, there) (front-encode b h version room))

-- and so for a macro
macro-encode : (version n : ℕ) (b rest : List ℕ) (m : Macro) → Bytes b → read_macro version n b ≡ got m rest → (items_fit version m ≡ true) × (le16_bytes (length m) ++ (encode_items version m ++ rest) ≡ b)
macro-encode version n b rest m h e =
    let (two, low, high, items) = macro-parts version n b rest m e in
    let (count, last, room) = items-got version n (le16 b) (drop 2 b) rest m items in
    let (fit, same) = items-encode version n (le16 b) (drop 2 b) rest m (bytes_drop 2 b h) items in
    (fit, rw (count, same) (word_number b h two))

-- and for macros
macros-encode : (version n k : ℕ) (b rest : List ℕ) (ms : List Macro) → Bytes b → read_macros version n k b ≡ got ms rest → (fits version ms ≡ true) × (encode_macros version ms ++ rest ≡ b)
unfolding read_macros encode_macros fits
macros-encode version n zero b rest ms h e = let none : ms ≡ [] = cc in rw none (refl, cc)
macros-encode version n (suc k) b rest ms h e =
    let (m, ns, mid, same, one, others) = more-got (read_macro version n b) (read_macros version (suc n) k) ms rest e in
    let byte : Bytes mid = rw (macro-got version n b mid m one).0 (bytes_drop (size (width version) m) b h) in
    let (fit, this) = macro-encode version n b mid m h one in
    let (more, behind) = macros-encode version (suc n) k mid rest ns byte others in
    (rw same (and_both (items_fit version m) (fits version ns) fit more), rw (same, append_assoc (encode_items version m) (encode_macros version ns) rest, behind) this)

-- the mark is the first three bytes
mark-front : (b : List ℕ) → 3 ≤ length b → has_magic b ≡ true → b ≡ magic ++ drop 3 b
mark-front [] l h = absurd (omega arith)
mark-front (x ∷ []) l h = absurd (omega arith)
mark-front (x ∷ y ∷ []) l h = absurd (omega arith)
mark-front (x ∷ y ∷ z ∷ b) l h =
    let (p, q) = (and-eq-true_iff _ _).0 h in
    let (r, s) = (and-eq-true_iff _ _).0 q in
    rw (eqb-true x 0x4D p, eqb-true y 0x42 r, eqb-true z 0x4B s)

-- a book that was read is the encoding of its macros in its version
module _ (taken b : List ℕ) (h : Bytes b) (ms : List Macro) (rest : List ℕ) (e : read_in taken b ≡ got ms rest) where
  all-encoded : (fits (version_in b) ms ≡ true) × (encode_macros (version_in b) ms ++ [] ≡ drop 7 b)
  all-encoded = macros-encode (version_in b) 0 (length ms) (drop 7 b) [] ms (bytes_drop 7 b h) (whole taken b ms rest e).macros

  pub read_fits : fits (version_in b) ms ≡ true
  read_fits = all-encoded.0

  pub read-encode : b ≡ encode (version_in b) ms
  unfolding encode
  read-encode =
      let w = whole taken b ms rest e in
      let long : 7 ≤ length b = w.long in
      let version : drop 3 b ≡ le16_bytes (version_in b) ++ drop 5 b = rw w.version at (word_at b h 3 (omega arith)) in
      let count : drop 5 b ≡ le16_bytes (length ms) ++ drop 7 b = rw w.count at (word_at b h 5 (omega arith)) in
      let all : encode_macros (version_in b) ms ++ [] ≡ drop 7 b = all-encoded.1 in
      mark-front b (omega arith) w.magic ∙ ap (λ (l : List ℕ). magic ++ l) (version ∙ ap (λ (l : List ℕ). le16_bytes (version_in b) ++ l) (count ∙ ap (λ (l : List ℕ). le16_bytes (length ms) ++ l) (sym all ∙ append-nil (encode_macros (version_in b) ms))))

-- a count that was tested, and what was tested with it
between : (k n : ℕ) (c : Bool) → leb 1 k && (leb k n && c) ≡ true → (1 ≤ k) × (k ≤ n) × (c ≡ true)
between k n c h =
    let (low, others) = (and-eq-true_iff (leb 1 k) (leb k n && c)).0 h in
    let (high, last) = (and-eq-true_iff (leb k n) c).0 others in
    (leb-true 1 k low, leb-true k n high, last)

-- a number's two bytes, read again
number_word : (c : ℕ) → c % 256 + 256 * (c / 256) ≡ c
number_word c = omega arith

-- an item whose numbers the bytes show is read
module _ (version n : ℕ) (i : Repeated) (h : sound_item n i ≡ true) where
  target-read : (rest : List ℕ) → check_item n (item_of (code i.item)) i.times rest ≡ got i rest
  unfolding sound_item sound_target
  target-read rest = go i.item (and_parts (sound_target n i.item) (leb 1 i.times) h).0
    where
      some : eqb i.times 0 ≡ false
      some =
          let low : 1 ≤ i.times = leb-true 1 i.times (and_parts (sound_target n i.item) (leb 1 i.times) h).1 in
          let no : i.times ≡ 0 → ⊥ = omega arith in
          ne_eqb _ _ no

      go : (x : Item) → sound_target n x ≡ true → check_item n (item_of (code x)) i.times rest ≡ got (repeated x i.times) rest
      go (Key k) s =
          let (low, high) = and_parts (leb 1 k) (leb k 255) s in
          let none : k ≡ 0 → ⊥ = omega (arith, leb-true 1 k low) in
          let small : k < 256 = omega (arith, leb-true k 255 high) in
          rw (lt-ltb _ _ small, ne_eqb _ _ none, some)
      go (Call j) s =
          let large : 256 ≤ 256 + j = omega arith in
          let less : 256 + j - 256 ≡ j = omega arith in
          rw (le-ltb _ _ large, less, s, some)

  shown_read : (b rest : List ℕ) → width version ≤ length b → le16 b ≡ code i.item → times_in version b ≡ i.times → drop (width version) b ≡ rest → read_item version n b ≡ got i rest
  unfolding read_item
  shown_read b rest long same often behind = rw (le-ltb _ _ long, same, often, behind) (target-read rest)

  -- so one that was written is read again
  module _ (f : item_fits version i ≡ true) (rest : List ℕ) where
    written-long : width version ≤ length (encode_item version i ++ rest)
    unfolding encode_item width
    written-long = go (eqb version 1)
      where
        go : (t : Bool) → cond t 2 4 ≤ length ((le16_bytes (code i.item) ++ cond t [] (le16_bytes i.times)) ++ rest)
        go true = omega arith
        go false = omega arith

    written-code : le16 (encode_item version i ++ rest) ≡ code i.item
    unfolding encode_item
    written-code = number_word (code i.item)

    written-times : times_in version (encode_item version i ++ rest) ≡ i.times
    unfolding encode_item times_in item_fits
    written-times = go (eqb version 1) f
      where
        go : (t : Bool) → cond t (eqb i.times 1) (leb i.times 65535) ≡ true → cond t 1 (le16 (drop 2 ((le16_bytes (code i.item) ++ cond t [] (le16_bytes i.times)) ++ rest))) ≡ i.times
        go true e = sym (eqb-true i.times 1 e)
        go false e = number_word i.times

    written-rest : drop (width version) (encode_item version i ++ rest) ≡ rest
    unfolding encode_item width
    written-rest = go (eqb version 1)
      where
        go : (t : Bool) → drop (cond t 2 4) ((le16_bytes (code i.item) ++ cond t [] (le16_bytes i.times)) ++ rest) ≡ rest
        go true = refl
        go false = refl

    item-read : read_item version n (encode_item version i ++ rest) ≡ got i rest
    item-read = shown_read (encode_item version i ++ rest) rest written-long written-code written-times written-rest

-- and so are items
items-read : (version n : ℕ) (is : Macro) (rest : List ℕ) → sound_items n is ≡ true → items_fit version is ≡ true → read_items version n (length is) (encode_items version is ++ rest) ≡ got is rest
unfolding sound_items read_items encode_items items_fit
items-read version n [] rest h f = refl
items-read version n (i ∷ is) rest h f =
    let (one, others) = and_parts (sound_item n i) (sound_items n is) h in
    let (fit, more) = and_parts (item_fits version i) (items_fit version is) f in
    rw (append_assoc (encode_item version i) (encode_items version is) rest, item-read version n i one fit (encode_items version is ++ rest), items-read version n is rest others more)

-- and a macro
macro-read : (version n : ℕ) (m : Macro) (rest : List ℕ) → sound_macro n m ≡ true → items_fit version m ≡ true → read_macro version n (le16_bytes (length m) ++ (encode_items version m ++ rest)) ≡ got m rest
unfolding sound_macro read_macro
macro-read version n m rest h f =
    let (low, high, items) = between (length m) 64 (sound_items n m) h in
    let long : 2 ≤ length (le16_bytes (length m) ++ (encode_items version m ++ rest)) = omega arith in
    rw (le-ltb _ _ long, number_word (length m), le-leb _ _ low, le-leb _ _ high) (items-read version n m rest items f)

-- and macros
macros-read : (version n : ℕ) (ms : List Macro) (rest : List ℕ) → sound_macros n ms ≡ true → fits version ms ≡ true → read_macros version n (length ms) (encode_macros version ms ++ rest) ≡ got ms rest
unfolding sound_macros read_macros encode_macros fits
macros-read version n [] rest h f = refl
macros-read version n (m ∷ ms) rest h f =
    let (one, others) = and_parts (sound_macro n m) (sound_macros (suc n) ms) h in
    let (fit, more) = and_parts (items_fit version m) (fits version ms) f in
    rw (append_assoc (encode_items version m) (encode_macros version ms) rest, macro-read version n m (encode_macros version ms ++ rest) one fit, macros-read version (suc n) ms rest others more)

-- the version that an encoding gives
pub encode-version : (version : ℕ) (ms : List Macro) → version_in (encode version ms) ≡ version
unfolding encode version_in
encode-version version ms =
    let long : 5 ≤ length (encode version ms) = omega arith in
    rw (le-ltb _ _ long) (number_word version)

-- the encoding of well-formed macros is read as these macros, wherever its version is taken
pub encode-read : (taken : List ℕ) (version : ℕ) → member version taken ≡ true → (ms : List Macro) → well_formed ms ≡ true → fits version ms ≡ true → read_in taken (encode version ms) ≡ got ms []
unfolding well_formed read_in read_all read_header encode
encode-read taken version known ms h f = rw (encode-version version ms) (
    let (low, high, all) = between (length ms) 1024 (sound_macros 0 ms) h in
    let long : 7 ≤ length (encode version ms) = omega arith in
    let read : read_macros version 0 (length ms) (encode_macros version ms) ≡ got ms [] = rw append-nil at (macros-read version 0 ms [] all f) in
    rw (le-leb _ _ long, number_word version, known, number_word (length ms), le-leb _ _ low, le-leb _ _ high, read))

-- such a book is read as its macros, and gives its version
module _ {taken b : List ℕ} {version : ℕ} {ms : List Macro} (s : Encodes taken b version ms) where
  pub encodes-read : read_in taken b ≡ got ms []
  encodes-read = ap (read_in taken) s.bytes ∙ encode-read taken version s.known ms s.well s.written

  pub encodes-version : version_in b ≡ version
  encodes-version = ap version_in s.bytes ∙ encode-version version ms

pub encodes-book : {b : List ℕ} {version : ℕ} {ms : List Macro} → Encodes versions b version ms → read_book b ≡ got ms []
unfolding read_book
encodes-book s = encodes-read s

-- and only such a book is
pub read-encodes : (taken b : List ℕ) → Bytes b → (ms : List Macro) (rest : List ℕ) → read_in taken b ≡ got ms rest → Encodes taken b (version_in b) ms
read-encodes taken b h ms rest e = record { known = (whole taken b ms rest e).known; well = read-well taken b ms rest e; written = read_fits taken b h ms rest e; bytes = read-encode taken b h ms rest e }

-- a book is sound exactly if it is the encoding of well-formed macros in its version, which is taken
pub sound-iff : (taken b : List ℕ) → Bytes b → (ms : List Macro) → (read_in taken b ≡ got ms []) ↔ Encodes taken b (version_in b) ms
sound-iff taken b h ms = (read-encodes taken b h ms [], λ s. encodes-read s)

-- so the check accepts a book exactly if it is sound
pub sound-accepted : (taken b : List ℕ) → Bytes b → SoundIn taken b ↔ ((ms : List Macro) × (read_in taken b ≡ got ms []))
sound-accepted taken b h = (λ (v, ms, s). (ms, encodes-read s), λ (ms, e). (version_in b, ms, read-encodes taken b h ms [] e))

-- as the operations read it: "A book is sound if it keeps all that stands above, .. in a version that counts take"
pub sound-book : (b : List ℕ) → Bytes b → Sound b ↔ ((ms : List Macro) × (read_book b ≡ got ms []))
unfolding read_book
sound-book b h = sound-accepted versions b h

-- an encoding has one reading, and one version
pub one-reading : {taken b : List ℕ} {v w : ℕ} {ms ns : List Macro} → Encodes taken b v ms → Encodes taken b w ns → (v ≡ w) × (ms ≡ ns)
one-reading x y = (sym (encodes-version x) ∙ encodes-version y, (same-got (sym (encodes-read x) ∙ encodes-read y)).0)

-- Versions that are taken.

-- a book in none of them is refused with 2, once it has its header and its mark
pub version-refused : (taken b : List ℕ) → 7 ≤ length b → has_magic b ≡ true → member (version_in b) taken ≡ false → read_in taken b ≡ refused UnsupportedVersion
unfolding read_in read_header
version-refused taken b long mark none =
    let same : member (le16 (drop 3 b)) taken ≡ false = ap (λ (x : ℕ). member x taken) (version-there b long) ∙ none in
    rw (le-leb _ _ long, mark, same)

-- "a version 1 reader refuses a version 2 book with 2"
pub one-refuses-two : (ms : List Macro) → read_in (1 ∷ []) (encode 2 ms) ≡ refused UnsupportedVersion
unfolding encode
one-refuses-two ms = version-refused (1 ∷ []) (encode 2 ms) (omega arith) refl (ap (λ (v : ℕ). member v (1 ∷ [])) (encode-version 2 ms))

-- what is read depends on whether the book's own version is taken, and on no other
pub taken-alike : (s t b : List ℕ) → member (version_in b) s ≡ member (version_in b) t → read_in s b ≡ read_in t b
unfolding read_in read_header
taken-alike s t b e = by-test (leb 7 (length b)) long short
  where
    long : leb 7 (length b) ≡ true → read_in s b ≡ read_in t b
    long l =
        let there = version-there b (leb-true 7 (length b) l) in
        let same : member (le16 (drop 3 b)) s ≡ member (le16 (drop 3 b)) t = ap (λ (x : ℕ). member x s) there ∙ e ∙ ap (λ (x : ℕ). member x t) (sym there) in
        rw same refl

    short : leb 7 (length b) ≡ false → read_in s b ≡ read_in t b
    short l = rw l refl

-- a version 1 book has a form in version 2, with the same macros
pub second-form : {b : List ℕ} {ms : List Macro} → Encodes versions b 1 ms → Encodes versions (encode 2 ms) 2 ms
second-form {b} {ms} s = record { known = refl; well = s.well; written = one-fits-two ms s.written; bytes = refl }

-- "Version 1 books are read as ever"
pub one-read-alike : (b : List ℕ) → version_in b ≡ 1 → read_book b ≡ read_in (1 ∷ []) b
unfolding read_book
one-read-alike b e = taken-alike versions (1 ∷ []) b (rw e refl)

-- a byte and some bytes are bytes
bytes-more : (x : ℕ) (b : List ℕ) → x < 256 → Bytes b → Bytes (x ∷ b)
bytes-more x b l h zero = l
bytes-more x b l h (suc i) = h i

-- and so are a number below 65,536 and some bytes
bytes_word : (n : ℕ) (b : List ℕ) → n < 65536 → Bytes b → Bytes (le16_bytes n ++ b)
bytes_word n b l h = bytes-more (n % 256) (n / 256 ∷ b) (omega arith) (bytes-more (n / 256) b (omega arith) h)

-- and the mark and some bytes
bytes-mark : (b : List ℕ) → Bytes b → Bytes (magic ++ b)
bytes-mark b h = bytes-more 0x4D (0x42 ∷ 0x4B ∷ b) (omega arith) (bytes-more 0x42 (0x4B ∷ b) (omega arith) (bytes-more 0x4B b (omega arith) h))

-- the code of a sound item is below 65,536, as a macro has a number of at most 1,024
code-small : (n : ℕ) (i : Item) → n ≤ 1024 → sound_target n i ≡ true → code i < 65536
unfolding sound_target
code-small n (Key k) l h = omega (arith, leb-true k 255 ((and-eq-true_iff (leb 1 k) (leb k 255)).0 h).1)
code-small n (Call j) l h = omega (arith, ltb-true j n h)

-- so a sound item is written as bytes
item-bytes : (version n : ℕ) (i : Repeated) (b : List ℕ) → n ≤ 1024 → sound_item n i ≡ true → item_fits version i ≡ true → Bytes b → Bytes (encode_item version i ++ b)
unfolding sound_item item_fits encode_item
item-bytes version n i b l h f g = go (eqb version 1) f
  where
    small : code i.item < 65536
    small = code-small n i.item l (and_parts (sound_target n i.item) (leb 1 i.times) h).0

    go : (t : Bool) → cond t (eqb i.times 1) (leb i.times 65535) ≡ true → Bytes ((le16_bytes (code i.item) ++ cond t [] (le16_bytes i.times)) ++ b)
    go true e = bytes_word (code i.item) b small g
    go false e = bytes_word (code i.item) (le16_bytes i.times ++ b) small (bytes_word i.times b (omega (arith, leb-true i.times 65535 e)) g)

-- and so are sound items
items-bytes : (version n : ℕ) (is : Macro) (b : List ℕ) → n ≤ 1024 → sound_items n is ≡ true → items_fit version is ≡ true → Bytes b → Bytes (encode_items version is ++ b)
unfolding sound_items encode_items items_fit
items-bytes version n [] b l h f g = g
items-bytes version n (i ∷ is) b l h f g =
    let (one, others) = and_parts (sound_item n i) (sound_items n is) h in
    let (fit, more) = and_parts (item_fits version i) (items_fit version is) f in
    rw (append_assoc (encode_item version i) (encode_items version is) b) (item-bytes version n i (encode_items version is ++ b) l one fit (items-bytes version n is b l others more g))

-- and sound macros
macros-bytes : (version n : ℕ) (ms : List Macro) → n + length ms ≤ 1024 → sound_macros n ms ≡ true → fits version ms ≡ true → Bytes (encode_macros version ms)
unfolding sound_macros sound_macro encode_macros fits
macros-bytes version n [] l h f = λ i. omega arith
macros-bytes version n (m ∷ ms) l h f =
    let (one, others) = and_parts (sound_macro n m) (sound_macros (suc n) ms) h in
    let (fit, more) = and_parts (items_fit version m) (fits version ms) f in
    let (low, high, items) = between (length m) 64 (sound_items n m) one in
    bytes_word (length m) (encode_items version m ++ encode_macros version ms) (omega arith)
    (items-bytes version n m (encode_macros version ms) (omega arith) items fit (macros-bytes version (suc n) ms (omega arith) others more))

-- the encoding of well-formed macros in a version of two bytes is bytes
pub encode-bytes : (version : ℕ) → version < 65536 → (ms : List Macro) → well_formed ms ≡ true → fits version ms ≡ true → Bytes (encode version ms)
unfolding well_formed encode
encode-bytes version small ms h f =
    let (low, high, all) = between (length ms) 1024 (sound_macros 0 ms) h in
    let all-bytes : Bytes (encode_macros version ms) = macros-bytes version 0 ms (omega arith) all f in
    let counted : List ℕ = le16_bytes (length ms) ++ encode_macros version ms in
    bytes-mark (le16_bytes version ++ counted) (bytes_word version counted small (bytes_word (length ms) (encode_macros version ms) (omega arith) all-bytes))

-- an item is written in its bytes
item-length : (version : ℕ) (i : Repeated) → length (encode_item version i) ≡ width version
unfolding encode_item width
item-length version i = go (eqb version 1)
  where
    go : (t : Bool) → length (le16_bytes (code i.item) ++ cond t [] (le16_bytes i.times)) ≡ cond t 2 4
    go true = refl
    go false = refl

pub length-items : (version : ℕ) (is : Macro) → length (encode_items version is) ≡ width version * length is
unfolding encode_items
length-items version [] = omega arith
length-items version (i ∷ is) = rw (length-append (encode_item version i) (encode_items version is), item-length version i, length-items version is) (omega arith)

-- the body of a macro of a book that was read is its items, encoded
pub body-encoded : (taken b : List ℕ) → Bytes b → (ms : List Macro) (rest : List ℕ) → read_in taken b ≡ got ms rest → (i : ℕ) → i < length ms → body_part (version_in b) b ms i ≡ encode_items (version_in b) (get_or ms i [])
body-encoded taken b h ms rest e i l =
    let v : ℕ = version_in b in
    let m : Macro = get_or ms i [] in
    let after : List ℕ = drop (offset v ms (i + 1)) b in
    let same = (macro-encode v i (drop (offset v ms i) b) after m (bytes_drop (offset v ms i) b h) (book-at taken b ms rest e i l)).1 in
    rw (← drop-drop 2 (offset v ms i) b, ← same) (take_at (encode_items v m) after (width v * length m) (length-items v m))
