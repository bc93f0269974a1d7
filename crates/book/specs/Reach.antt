-- Documents 01, "The book", and 02, S-8: what a macro reaches, and books that are alike in a macro.
use Rattle.std.specs.Prelude.{ℕ, ◌<◌, ◌≡◌, length, get_or}
use mathlib.Core.List.{List, [], Memᴰ}
use Rattle.book.specs.declared.item.Item.TheVariants.{Call}
use Rattle.book.specs.Format.{Macro}
use Rattle.book.specs.Expansion.{unrolled}

-- macro m calls macro j, however often
abbrev pub Calls : List Macro → ℕ → ℕ → Type 0
Calls ms m j = Memᴰ (Call j) (unrolled (get_or ms m []))

-- "A macro reaches itself and every macro it calls, directly or through others."
pub data Reaches (ms : List Macro) : ℕ → ℕ → Type 0 where
  itself : {m : ℕ} → Reaches ms m m
  through : {m i j : ℕ} → Calls ms m i → Reaches ms i j → Reaches ms m j

-- "Two books are alike in a macro if both have one of that number, with the same items in the same order."; "the
-- same repeat counts there too (a version 1 item stands once)", so books of either version may be
pub record Alike (ms ns : List Macro) (m : ℕ) : Type 0 where
  pub first : m < length ms
  pub second : m < length ns
  pub same : get_or ms m [] ≡ get_or ns m []

-- "alike in every macro that the one named reaches"
abbrev pub AlikeReached : List Macro → List Macro → ℕ → Type 0
AlikeReached ms ns m = (j : ℕ) → Reaches ms m j → Alike ms ns j
