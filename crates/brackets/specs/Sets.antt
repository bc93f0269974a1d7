-- Document 01, "Patterns": the set of keys of an atom.
use Rattle.std.specs.Prelude.{ℕ, Bool, true, false, ◌&&◌, ◌||◌, List, [], ◌∷◌, leb, eqb, get_or}
use Rattle.std.specs.Bool.{xor}
use Rattle.brackets.specs.Form.{Element, byte, range, class, Atom, plain, dot, escaped, bracket}
use Rattle.letters.specs.declared.Case.{Case}
use Rattle.letters.specs.Letters.{folded}
use Rattle.runs.specs.Keys.{line_key}

-- a range of bytes, both ends in it
pub record Range : Type 0 where
  pub first : ℕ
  pub last : ℕ

abbrev pub to : ℕ → ℕ → Range
to a b = record { first = a; last = b }

-- "The twelve class names stand for these ranges", in the order of the names: upper 65–90; lower 97–122; alpha both; digit 48–57; alnum alpha and digit;
-- xdigit 48–57, 65–70, 97–102; punct 33–47, 58–64, 91–96, 123–126; graph 33–126; print 32–126; cntrl 0–31, 127; space 9–13, 32; blank 9, 32
unfoldable pub class_ranges : List (List Range)
class_ranges =
    (to 65 90 ∷ [])
    ∷ (to 97 122 ∷ [])
    ∷ (to 65 90 ∷ to 97 122 ∷ [])
    ∷ (to 48 57 ∷ [])
    ∷ (to 65 90 ∷ to 97 122 ∷ to 48 57 ∷ [])
    ∷ (to 48 57 ∷ to 65 70 ∷ to 97 102 ∷ [])
    ∷ (to 33 47 ∷ to 58 64 ∷ to 91 96 ∷ to 123 126 ∷ [])
    ∷ (to 33 126 ∷ [])
    ∷ (to 32 126 ∷ [])
    ∷ (to 0 31 ∷ to 127 127 ∷ [])
    ∷ (to 9 13 ∷ to 32 32 ∷ [])
    ∷ (to 9 9 ∷ to 32 32 ∷ [])
    ∷ []

unfoldable pub in_ranges : ℕ → List Range → Bool
in_ranges k [] = false
in_ranges k (r ∷ rs) = (leb r.first k && leb k r.last) || in_ranges k rs

unfoldable pub in_element : ℕ → Element → Bool
in_element k (byte b) = eqb k b
in_element k (range a b) = leb a k && leb k b
in_element k (class c) = in_ranges k (get_or class_ranges c [])

unfoldable pub in_elements : ℕ → List Element → Bool
in_elements k [] = false
in_elements k (e ∷ es) = in_element k e || in_elements k es

-- the bytes that an atom names
unfoldable pub named : Atom → ℕ → Bool
named (plain b) k = eqb k b
named dot k = true
named (escaped b) k = eqb k b
named (bracket n es) k = in_elements k es

-- a leading `^` is "for all keys but these"
abbrev pub negated : Atom → Bool
negated (plain b) = false
negated dot = false
negated (escaped b) = false
negated (bracket n es) = n

-- the sets of the atoms: whether a key is in the set of an atom
abbrev pub Sets : Type 0
Sets = Atom → ℕ → Bool

-- The set of an atom. Document 02, S-1: with case ignored the letters are folded, and "Inside a bracket this happens before a leading `^` turns
-- the set round." "Every set says no for 0 and for LF, also where a range or class covers them". Without the choice it is document 01's
-- (`plain-set`, `dot-set`, `escaped-set`, `bracket-set`).
unfoldable pub set_of : Case → Sets
set_of c a k = line_key k && xor (negated a) (folded c (named a) k)
