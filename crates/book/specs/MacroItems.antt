-- The items of one macro, found by a table of offsets, and the bytes that hold them.
use Rattle.std.specs.Prelude.{ℕ, zero, suc, ◌+◌, ◌-◌, ◌/◌, min, Bool, ◌&&◌, cond, List, [], ◌∷◌, ◌++◌, Option, Some, None, leb, ltb, length, drop, get_or, replicate, take}
use Rattle.book.specs.declared.item.Item.TheVariants.{Key}
use Rattle.book.specs.declared.item.Repeated.{Repeated}
use Rattle.book.specs.declared.macro_items.Items.{Items}
use Rattle.book.specs.Format.{repeated, Macro, width}
use Rattle.book.specs.Reading.{item_of, le16, times_in, version_in}

-- where the items of macro i start, behind its two-byte item count, and where they end, at the next macro
abbrev pub items_start : List ℕ → ℕ → ℕ
items_start offsets i = get_or offsets i 0 + 2

abbrev pub items_end : List ℕ → ℕ → ℕ
items_end offsets i = get_or offsets (i + 1) 0

-- a macro of that number can be, and its items have a place in b
abbrev pub placed : List ℕ → List ℕ → ℕ → Bool
placed b offsets i = ltb i 1024 && (leb (items_start offsets i) (items_end offsets i) && leb (items_end offsets i) (length b))

-- the bytes from one place to another
abbrev pub between : ℕ → ℕ → List ℕ → List ℕ
between start end b = take (end - start) (drop start b)

-- the bytes of macro i's items
unfoldable pub part_from : List ℕ → List ℕ → ℕ → List ℕ
part_from b offsets i = cond (placed b offsets i) (between (items_start offsets i) (items_end offsets i) b) []

-- where they stand, if b stands at p
unfoldable pub part_at : ℕ × ℕ → List ℕ → List ℕ → ℕ → ℕ × ℕ
part_at p b offsets i = cond (placed b offsets i) (p.0, items_start offsets i + p.1) p

-- the item at the front of some bytes
abbrev pub front_item : ℕ → List ℕ → Repeated
front_item version b = repeated (item_of (le16 b)) (times_in version b)

-- the same where the bytes are enough for an item
abbrev pub item_read : ℕ → List ℕ → Option Repeated
item_read version b = cond (ltb (length b) (width version)) None (Some (front_item version b))

-- the first k items that some bytes hold
unfoldable pub front_items : ℕ → ℕ → List ℕ → Macro
front_items version zero b = []
front_items version (suc k) b = front_item version b ∷ front_items version k (drop (width version) b)

-- k items, and keys of 0 up to 64
abbrev pub items_up_to : ℕ → ℕ → List ℕ → Items
items_up_to version k b = record { list = front_items version k b ++ replicate (64 - k) (repeated (Key 0) 0); count = k }

-- the items of a version that some bytes hold, 64 at the most
unfoldable pub items_in : ℕ → List ℕ → Items
items_in version b = items_up_to version (min 64 (length b / width version)) b

-- the items of macro i of b, where `offsets` says where the macros start
unfoldable pub items_from : List ℕ → List ℕ → ℕ → Items
items_from b offsets i = items_in (version_in b) (part_from b offsets i)

-- the items themselves
unfoldable pub decoded : Items → Macro
decoded r = take r.count r.list
