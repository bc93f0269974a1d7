-- Reach lists of small books, computed.
use Prim.Native.Nat.{ℕ}
use mathlib.Core.Path.{◌≡◌, refl}
use mathlib.Core.List.{List, [], ◌∷◌}
use Rattle.book.specs.declared.item.Item.TheVariants.{Key, Call}
use Rattle.book.specs.Format.{Macro, repeated}
use Rattle.book.specs.Expansion.{unrolled}
use Rattle.reach.specs.Entries.{entries_of, entries_to, entries, without, firsts, reach_list}

-- document 01's example: macro 1 calls macro 0 twice
abbrev document : List Macro
document = (repeated (Key 66) 1 ∷ repeated (Key 10) 1 ∷ []) ∷ (repeated (Call 0) 1 ∷ repeated (Key 67) 1 ∷ repeated (Call 0) 1 ∷ []) ∷ []

-- macros 1 and 2 call macro 0, and macro 3 calls both
abbrev diamond : ℕ → ℕ → List Macro
diamond i j = (repeated (Key 97) 1 ∷ []) ∷ (repeated (Call 0) 1 ∷ repeated (Key 98) 1 ∷ []) ∷ (repeated (Key 99) 1 ∷ repeated (Call 0) 1 ∷ []) ∷ (repeated (Call i) 1 ∷ repeated (Key 100) 1 ∷ repeated (Call j) 1 ∷ []) ∷ []

-- the same key is the first one of macros 4, 3, 2, 0; macro 1 is not reached
abbrev nested : List Macro
nested = (repeated (Key 97) 1 ∷ []) ∷ (repeated (Key 98) 1 ∷ []) ∷ (repeated (Call 0) 1 ∷ []) ∷ (repeated (Call 2) 1 ∷ []) ∷ (repeated (Call 3) 1 ∷ repeated (Call 0) 1 ∷ []) ∷ []

-- macro 1 calls macro 0 three times by one item
abbrev chase : List Macro
chase = (repeated (Key 97) 1 ∷ []) ∷ (repeated (Call 0) 3 ∷ []) ∷ []

-- a macro that is called first deep inside and then directly stands where the run enters it first, and so does one that is called first
-- directly and then deep inside
pub examples :
    (reach_list document 1 ≡ 1 ∷ 0 ∷ [])
    × (entries document 1 ≡ 1 ∷ 0 ∷ 0 ∷ [])
    × (reach_list (diamond 1 2) 3 ≡ 3 ∷ 1 ∷ 0 ∷ 2 ∷ [])
    × (reach_list (diamond 2 1) 3 ≡ 3 ∷ 2 ∷ 0 ∷ 1 ∷ [])
    × (reach_list (diamond 0 1) 3 ≡ 3 ∷ 0 ∷ 1 ∷ [])
    × (reach_list nested 4 ≡ 4 ∷ 3 ∷ 2 ∷ 0 ∷ [])
    × (reach_list nested 1 ≡ 1 ∷ [])
    × (entries chase 1 ≡ 1 ∷ 0 ∷ 0 ∷ 0 ∷ [])
    × (reach_list chase 1 ≡ 1 ∷ 0 ∷ [])
unfolding reach_list firsts without entries entries_to entries_of unrolled
examples = (refl, refl, refl, refl, refl, refl, refl, refl, refl)
