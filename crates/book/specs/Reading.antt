-- Documents 01, "Refused", and 02, S-8: what a book is refused for, in reading order, item by item; and what a sound book holds.
use Rattle.std.specs.Prelude.{ℕ, zero, suc, ◌+◌, ◌-◌, ◌*◌, Bool, ◌&&◌, cond, List, [], ◌∷◌, leb, ltb, eqb, length, drop, get_or}
use Rattle.refusal.specs.declared.Refusal.{Refusal}
use Rattle.refusal.specs.declared.Refusal.TheVariants.{BadMagic, UnsupportedVersion, BadMacroCount, MalformedBody, InvalidKey, ForwardReference, ZeroRepeatCount}
use Rattle.book.specs.declared.item.Item.{Item}
use Rattle.book.specs.declared.item.Item.TheVariants.{Key, Call}
use Rattle.runs.specs.Keys.{member}
use Rattle.book.specs.Format.{repeated, Macro, width, versions}
use Rattle.book.specs.declared.item.Repeated.{Repeated}

-- what was read and the bytes after it, or the refusal
pub data Reading (A : Type 0) : Type 0 where
  got : A → List ℕ → Reading A
  refused : Refusal → Reading A

-- reads the front of some bytes
abbrev pub Reader : Type 0 → Type 0
Reader A = List ℕ → Reading A

abbrev pub done : {A : Type 0} → A → Reader A
done a b = got a b

abbrev pub next : {A B : Type 0} → Reading A → (A → Reader B) → Reading B
next (got a rest) f = f a rest
next (refused r) f = refused r

-- one reader after the other
abbrev pub ◌>>=◌ : {A B : Type 0} → Reader A → (A → Reader B) → Reader B
◌>>=◌ m f = λ b. next (m b) f

-- "two-byte numbers have the low byte first"
abbrev pub le16 : List ℕ → ℕ
le16 b = get_or b 0 0 + 256 * get_or b 1 0

-- "An item from 1 to 255 is a key. An item 256 + j calls macro j"; a key of 0 is refused where a book is checked
abbrev pub item_of : ℕ → Item
item_of c = cond (ltb c 256) (Key c) (Call (c - 256))

-- the repeat count of the item at the front of some bytes: "the item as before, then a two-byte repeat count"; "a version 1 item stands once"
unfoldable pub times_in : ℕ → List ℕ → ℕ
times_in version b = cond (eqb version 1) 1 (le16 (drop 2 b))

-- 20, "a repeat count of 0"
abbrev pub check_times : Item → ℕ → Reader Repeated
check_times i times rest = cond (eqb times 0) (refused ZeroRepeatCount) (got (repeated i times) rest)

-- an item of macro n: 5, "item 0"; 6, "256 or more, and not a lower macro"; 20 "tested after 5 and 6 for the same item"
abbrev pub check_item : ℕ → Item → ℕ → Reader Repeated
check_item n (Key k) times rest = cond (eqb k 0) (refused InvalidKey) (check_times (Key k) times rest)
check_item n (Call j) times rest = cond (ltb j n) (check_times (Call j) times rest) (refused ForwardReference)

-- 4, "bytes run out": "an item with fewer than its four bytes left is 4, before all three"
unfoldable pub read_item : ℕ → ℕ → Reader Repeated
read_item version n b =
    cond (ltb (length b) (width version)) (refused MalformedBody) (check_item n (item_of (le16 b)) (times_in version b) (drop (width version) b))

-- k items of macro n
unfoldable pub read_items : ℕ → ℕ → ℕ → Reader Macro
read_items version n zero = done []
read_items version n (suc k) = do
  i ← read_item version n
  is ← read_items version n k
  done (i ∷ is)

-- macro n; 4, "item count 0 or over 64, bytes run out"
unfoldable pub read_macro : ℕ → ℕ → Reader Macro
read_macro version n b =
    cond (ltb (length b) 2) (refused MalformedBody)
    (cond (leb 1 (le16 b) && leb (le16 b) 64) (read_items version n (le16 b) (drop 2 b))
    (refused MalformedBody))

-- k macros, from number n on
unfoldable pub read_macros : ℕ → ℕ → ℕ → Reader (List Macro)
read_macros version n zero = done []
read_macros version n (suc k) = do
  m ← read_macro version n
  ms ← read_macros version (suc n) k
  done (m ∷ ms)

-- "The first three bytes are the mark `MBK` (hex 4D 42 4B)"
abbrev pub has_magic : List ℕ → Bool
has_magic b = eqb (get_or b 0 0) 0x4D && (eqb (get_or b 1 0) 0x42 && eqb (get_or b 2 0) 0x4B)

-- the macro count, after 1, "under 7 bytes, or another mark"; 2, none of the versions that are taken; 3, "0 or over 1,024"
unfoldable pub read_header : List ℕ → Reader ℕ
read_header taken b =
    cond (leb 7 (length b) && has_magic b)
    (cond (member (le16 (drop 3 b)) taken)
    (cond (leb 1 (le16 (drop 5 b)) && leb (le16 (drop 5 b)) 1024) (got (le16 (drop 5 b)) (drop 7 b))
    (refused BadMacroCount))
    (refused UnsupportedVersion))
    (refused BadMagic)

-- "Then a two-byte version": the one that some bytes give, 0 where they do not reach so far
unfoldable pub version_in : List ℕ → ℕ
version_in b = cond (ltb (length b) 5) 0 (le16 (drop 3 b))

-- "Nothing follows"; 4, "bytes left over"
abbrev pub at_end : {A : Type 0} → A → Reader A
at_end a b = cond (eqb (length b) 0) (got a b) (refused MalformedBody)

-- k macros and nothing more
unfoldable pub read_all : ℕ → ℕ → Reader (List Macro)
read_all version k = do
  ms ← read_macros version 0 k
  at_end ms

-- a whole book in one of the versions that are taken: its macros, or what it is refused for
unfoldable pub read_in : List ℕ → Reader (List Macro)
read_in taken b = next (read_header taken b) (λ k. read_all (version_in b) k)

-- as the operations of document 01 read it: "Refusal 2 now means neither 1 nor 2"
unfoldable pub read_book : Reader (List Macro)
read_book b = read_in versions b

-- the macros of a sound book
abbrev pub macros_of : Reading (List Macro) → List Macro
macros_of (got ms rest) = ms
macros_of (refused r) = []

abbrev pub macros_in : List ℕ → List Macro
macros_in b = macros_of (read_book b)
