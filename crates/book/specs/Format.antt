-- Documents 01, "The book", and 02, S-8: the bytes of a book, and what makes one sound.
use Rattle.std.specs.Prelude.{ℕ, suc, ◌+◌, ◌/◌, ◌%◌, ◌≡◌, Bool, true, ◌&&◌, cond, List, [], ◌∷◌, ◌++◌, leb, ltb, eqb, length}
use Rattle.runs.specs.Keys.{is_key, member}
use Rattle.book.specs.declared.item.Item.{Item}
use Rattle.book.specs.declared.item.Item.TheVariants.{Key, Call}
use Rattle.book.specs.declared.item.Repeated.{Repeated}

-- an item and how often it stands there: "a version 1 item stands once"
abbrev pub repeated : Item → ℕ → Repeated
repeated i n = record { item = i; times = n }

-- a macro is its items in order
abbrev pub Macro : Type 0
Macro = List Repeated

-- "two-byte numbers have the low byte first"
abbrev pub le16_bytes : ℕ → List ℕ
le16_bytes n = n % 256 ∷ n / 256 ∷ []

-- how many bytes an item has: "two-byte items"; "In a version 2 book an item is four bytes", and so in every version that is not 1
unfoldable pub width : ℕ → ℕ
width version = cond (eqb version 1) 2 4

-- "An item from 1 to 255 is a key. An item 256 + j calls macro j"
abbrev pub code : Item → ℕ
code (Key k) = k
code (Call j) = 256 + j

-- "the item as before, then a two-byte repeat count"
unfoldable pub encode_item : ℕ → Repeated → List ℕ
encode_item version i = le16_bytes (code i.item) ++ cond (eqb version 1) [] (le16_bytes i.times)

-- "that many .. items"
unfoldable pub encode_items : ℕ → Macro → List ℕ
encode_items version [] = []
encode_items version (i ∷ is) = encode_item version i ++ encode_items version is

-- "Each is a two-byte item count .. and that many .. items"
unfoldable pub encode_macros : ℕ → List Macro → List ℕ
encode_macros version [] = []
encode_macros version (m ∷ ms) = le16_bytes (length m) ++ (encode_items version m ++ encode_macros version ms)

-- "The first three bytes are the mark `MBK` (hex 4D 42 4B)"
abbrev pub magic : List ℕ
magic = 0x4D ∷ 0x42 ∷ 0x4B ∷ []

-- "Then a two-byte version .. and a two-byte macro count M .. Then M macros .. Nothing follows."
unfoldable pub encode : ℕ → List Macro → List ℕ
encode version ms = magic ++ (le16_bytes version ++ (le16_bytes (length ms) ++ encode_macros version ms))

-- the item of macro n is a key "from 1 to 255", or a call of macro j "and j is lower than the number of the macro it stands in"
unfoldable pub sound_target : ℕ → Item → Bool
sound_target n (Key k) = is_key k
sound_target n (Call j) = ltb j n

-- and it has a "repeat count from 1" on
unfoldable pub sound_item : ℕ → Repeated → Bool
sound_item n i = sound_target n i.item && leb 1 i.times

unfoldable pub sound_items : ℕ → Macro → Bool
sound_items n [] = true
sound_items n (i ∷ is) = sound_item n i && sound_items n is

-- "a two-byte item count, 1 to 64"; "A macro still has 1 to 64 items"
unfoldable pub sound_macro : ℕ → Macro → Bool
sound_macro n m = leb 1 (length m) && (leb (length m) 64 && sound_items n m)

-- the macros from number n on
unfoldable pub sound_macros : ℕ → List Macro → Bool
sound_macros n [] = true
sound_macros n (m ∷ ms) = sound_macro n m && sound_macros (suc n) ms

-- "a two-byte macro count M, 1 to 1,024. Then M macros, numbered from 0."
unfoldable pub well_formed : List Macro → Bool
well_formed ms = leb 1 (length ms) && (leb (length ms) 1024 && sound_macros 0 ms)

-- an item can be written in a version: "a version 1 item stands once"; "a two-byte repeat count .. to 65,535"
unfoldable pub item_fits : ℕ → Repeated → Bool
item_fits version i = cond (eqb version 1) (eqb i.times 1) (leb i.times 65535)

unfoldable pub items_fit : ℕ → Macro → Bool
items_fit version [] = true
items_fit version (i ∷ is) = item_fits version i && items_fit version is

-- and so can each item of some macros
unfoldable pub fits : ℕ → List Macro → Bool
fits version [] = true
fits version (m ∷ ms) = items_fit version m && fits version ms

-- Some bytes are a book with these macros, in one of the versions that are taken: "it keeps all that stands above, with no other items".
pub record Encodes (taken b : List ℕ) (version : ℕ) (macros : List Macro) : Type 0 where
  pub known : member version taken ≡ true
  pub well : well_formed macros ≡ true
  pub written : fits version macros ≡ true
  pub bytes : b ≡ encode version macros

abbrev pub SoundIn : List ℕ → List ℕ → Type 0
SoundIn taken b = (version : ℕ) × (macros : List Macro) × Encodes taken b version macros

-- the versions "that counts take", and with them all operations of document 01: "Refusal 2 now means neither 1 nor 2"
abbrev pub versions : List ℕ
versions = 1 ∷ 2 ∷ []

-- "A book is sound if it keeps all that stands above, .. in a version that counts take"
abbrev pub Sound : List ℕ → Type 0
Sound b = SoundIn versions b
