-- Document 02, S-3: the four work words of a run's extent.
use Rattle.std.specs.Prelude.{ℕ, ◌+◌, Bool, cond, List, [], ◌∷◌, ◌++◌, leb, length, get_or, take, drop}
use Rattle.extents.specs.declared.extent.Extent.{Extent}
use Rattle.extents.specs.Operations.{no_extent}

-- "four words a macro"
abbrev pub width : ℕ
width = 4

abbrev pub extent_words : Extent → List ℕ
extent_words e = e.ends ∷ e.first ∷ e.last ∷ e.keys ∷ []

-- n words hold those of an extent from `at` on
abbrev pub room_for : ℕ → ℕ → Bool
room_for n at = leb (at + width) n

-- the extent whose words start at a place
abbrev pub loaded_from : List ℕ → ℕ → Extent
loaded_from w at = record { ends = get_or w at 0; first = get_or w (at + 1) 0; last = get_or w (at + 2) 0; keys = get_or w (at + 3) 0 }

-- or zeros where they are not all there
unfoldable pub loaded_at : List ℕ → ℕ → Extent
loaded_at w at = cond (room_for (length w) at) (loaded_from w at) no_extent

-- the words with those of an extent from a place on
abbrev pub words_with : List ℕ → ℕ → Extent → List ℕ
words_with w at e = take at w ++ (extent_words e ++ drop (at + width) w)

-- or as they were where there is no room
unfoldable pub stored_at : List ℕ → ℕ → Extent → List ℕ
stored_at w at e = cond (room_for (length w) at) (words_with w at e) w
