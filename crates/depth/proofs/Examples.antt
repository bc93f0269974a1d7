-- Depths of small runs and books, computed. The keys are 40 and 41, ( and ), if no others are named.
use Prim.Native.Nat.{ℕ}
use mathlib.Core.Path.{◌≡◌, refl}
use mathlib.Core.List.{List, [], ◌∷◌}
use lib.IntN.{ℤ, pos, negsuc}
use Rattle.book.specs.declared.item.Item.TheVariants.{Key, Call}
use Rattle.book.specs.Format.{Macro, repeated}
use Rattle.book.specs.Expansion.{expand, unrolled, expand_to, expansion}
use Rattle.depth.specs.Depths.{occurrences, depth_after, lower, lowest_to, lowest_depth}
use Rattle.depth.specs.Answer.{depth_words}

abbrev DepthsBy : ℕ → ℕ → List ℕ → ℤ → ℤ → Type 0
DepthsBy opening closing w end lowest = (depth_after opening closing w ≡ end) × (lowest_depth opening closing w ≡ lowest)

abbrev Depths : List ℕ → ℤ → ℤ → Type 0
Depths w end lowest = DepthsBy 40 41 w end lowest

-- macro 0 is ))(, which falls to -2 and ends at -1; macro 1 is ( and macro 0 and (; macro 2 is macro 0 three times
abbrev book : List Macro
book = (repeated (Key 41) 2 ∷ repeated (Key 40) 1 ∷ []) ∷ (repeated (Key 40) 1 ∷ repeated (Call 0) 1 ∷ repeated (Key 40) 1 ∷ []) ∷ (repeated (Call 0) 3 ∷ []) ∷ []

pub examples :
    Depths [] (pos 0) (pos 0)
    × Depths (40 ∷ 41 ∷ []) (pos 0) (pos 0)
    × Depths (41 ∷ 40 ∷ []) (pos 0) (negsuc 0)
    × Depths (40 ∷ 97 ∷ 40 ∷ []) (pos 2) (pos 0)
    × Depths (13 ∷ 41 ∷ 10 ∷ 41 ∷ []) (negsuc 1) (negsuc 1)
    × DepthsBy 13 255 (13 ∷ 10 ∷ 13 ∷ 255 ∷ []) (pos 1) (pos 0)
    × Depths (expansion book 0) (negsuc 0) (negsuc 1)
    × Depths (expansion book 1) (pos 1) (negsuc 0)
    × Depths (expansion book 2) (negsuc 2) (negsuc 3)
    × (depth_words 40 41 (expansion book 0) ≡ 3 ∷ 18446744073709551615 ∷ 18446744073709551614 ∷ [])
unfolding depth_after lowest_depth lowest_to lower occurrences expansion expand_to expand unrolled depth_words
examples = ((refl, refl), (refl, refl), (refl, refl), (refl, refl), (refl, refl), (refl, refl), (refl, refl), (refl, refl), (refl, refl), refl)
