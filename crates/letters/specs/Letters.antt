-- Document 02, S-1: letters and the folding of a set.
use Rattle.std.specs.Prelude.{ℕ, ◌+◌, ◌-◌, ◌≡◌, ◌⊎◌, Bool, ◌&&◌, ◌||◌, cond, List, [], ◌∷◌, leb}
use Rattle.letters.specs.declared.Case.{Case}

-- "a letter 65–90", and "the letter 32 above it"
abbrev pub is_upper : ℕ → Bool
is_upper k = leb 65 k && leb k 90

abbrev pub is_lower : ℕ → Bool
is_lower k = leb 97 k && leb k 122

-- the same letter in the other case; what is no letter is its own
unfoldable pub other_case : ℕ → ℕ
other_case k = cond (is_upper k) (k + 32) (cond (is_lower k) (k - 32) k)

-- with case ignored the two "are then each in a set if either is"
unfoldable pub folded : Case → (ℕ → Bool) → ℕ → Bool
folded Case.Sensitive X k = X k
folded Case.Ignored X k = X k || X (other_case k)

-- the same letter or other byte, but for the case
abbrev pub SameLetter : ℕ → ℕ → Type 0
SameLetter j k = (k ≡ j) ⊎ (k ≡ other_case j)

-- two lists that are in R, entry by entry
abbrev pub Each : {A : Type 0} → (A → A → Type 0) → List A → List A → Type 0
Each R [] [] = Unit
Each R [] (k ∷ v) = ⊥
Each R (j ∷ u) [] = ⊥
Each R (j ∷ u) (k ∷ v) = R j k × Each R u v

-- two lines, or runs, that differ only in the case of letters
abbrev pub SameLetters : List ℕ → List ℕ → Type 0
SameLetters u v = Each SameLetter u v
