-- Document 02, S-7 and S-8: "The desk editor will regroup long macros by itself". Some items ys of macro m become a macro of their own, j.
use Rattle.std.specs.Prelude.{ℕ, suc, ◌<◌, ◌≤◌, ◌≡◌, cond, ltb, length, get_or, set, take, drop}
use mathlib.Core.List.{List, [], ◌∷◌, ◌++◌, map, Memᴰ}
use Rattle.book.specs.declared.item.Item.{Item}
use Rattle.book.specs.declared.item.Item.TheVariants.{Key, Call}
use Rattle.book.specs.Format.{repeated, Macro}
use Rattle.book.specs.declared.item.Repeated.{Repeated}

-- every macro from j on goes up by one: the number that macro i has then
unfoldable pub raised : ℕ → ℕ → ℕ
raised j i = cond (ltb i j) i (suc i)

-- and so does every call of one; each item stands there as often as before
abbrev pub raised_target : ℕ → Item → Item
raised_target j (Key k) = Key k
raised_target j (Call i) = Call (raised j i)

abbrev pub raised_item : ℕ → Repeated → Repeated
raised_item j i = repeated (raised_target j i.item) i.times

abbrev pub raised_items : ℕ → Macro → Macro
raised_items j items = map (raised_item j) items

-- macro j stands behind all that some items call
abbrev pub Behind : ℕ → Macro → Type 0
Behind j items = (i n : ℕ) → Memᴰ (repeated (Call i) n) items → i < j

-- xs, a call of j, zs
abbrev pub calling : ℕ → Macro → Macro → Macro
calling j xs zs = raised_items j xs ++ (repeated (Call j) 1 ∷ raised_items j zs)

-- book ns is book ms regrouped
pub record Regrouped (ms ns : List Macro) (m j : ℕ) (xs ys zs : Macro) : Type 0 where
  -- macro m has the items xs, ys, zs, one behind the other
  pub inside : m < length ms
  pub items : get_or ms m [] ≡ xs ++ (ys ++ zs)
  -- there is a new macro j, not above m, which has ys; in a sound book ys calls lower ones alone, and these stay where they are
  pub not_above : j ≤ m
  pub longer : length ns ≡ suc (length ms)
  pub part : get_or ns j [] ≡ ys
  -- m + 1 has xs, a call of j, zs
  pub caller : get_or ns (suc m) [] ≡ calling j xs zs
  -- every other macro has its items
  pub others : (i : ℕ) → i < length ms → (i ≡ m → ⊥) → get_or ns (raised j i) [] ≡ raised_items j (get_or ms i [])

-- one macro more, in front of place j
abbrev pub inserted : ℕ → Macro → List Macro → List Macro
inserted j new ms = take j ms ++ (new ∷ drop j ms)

-- the macros of the regrouped book
unfoldable pub regroup : List Macro → ℕ → ℕ → Macro → Macro → Macro → List Macro
regroup ms m j xs ys zs = inserted j ys (set (map (raised_items j) ms) m (calling j xs zs))
