-- Document 01, "Patterns": the form of an atom and of a bracket, their bytes, and the side conditions of each sentence.
use Rattle.std.specs.Prelude.{ℕ, Bool, true, false, not, ◌&&◌, ◌||◌, cond, List, [], ◌∷◌, ◌++◌, leb, ltb, eqb, get_or}
use Rattle.runs.specs.Keys.{member, line_key}

-- "An element is one byte, a range by byte value with first not above last, or a class `[:name:]`", here the class's place in the table
pub data Element : Type 0 where
  byte : ℕ → Element
  range : ℕ → ℕ → Element
  class : ℕ → Element

-- "Atoms: a plain byte ..; `.`; `\` before one of ..; a bracket", which is negated or not
pub data Atom : Type 0 where
  plain : ℕ → Atom
  dot : Atom
  escaped : ℕ → Atom
  bracket : Bool → List Element → Atom

-- The names of the twelve classes, in the paper's order: upper, lower, alpha, digit, alnum, xdigit, punct, graph, print, cntrl, space, blank
unfoldable pub class_names : List (List ℕ)
class_names =
    (117 ∷ 112 ∷ 112 ∷ 101 ∷ 114 ∷ [])
    ∷ (108 ∷ 111 ∷ 119 ∷ 101 ∷ 114 ∷ [])
    ∷ (97 ∷ 108 ∷ 112 ∷ 104 ∷ 97 ∷ [])
    ∷ (100 ∷ 105 ∷ 103 ∷ 105 ∷ 116 ∷ [])
    ∷ (97 ∷ 108 ∷ 110 ∷ 117 ∷ 109 ∷ [])
    ∷ (120 ∷ 100 ∷ 105 ∷ 103 ∷ 105 ∷ 116 ∷ [])
    ∷ (112 ∷ 117 ∷ 110 ∷ 99 ∷ 116 ∷ [])
    ∷ (103 ∷ 114 ∷ 97 ∷ 112 ∷ 104 ∷ [])
    ∷ (112 ∷ 114 ∷ 105 ∷ 110 ∷ 116 ∷ [])
    ∷ (99 ∷ 110 ∷ 116 ∷ 114 ∷ 108 ∷ [])
    ∷ (115 ∷ 112 ∷ 97 ∷ 99 ∷ 101 ∷ [])
    ∷ (98 ∷ 108 ∷ 97 ∷ 110 ∷ 107 ∷ [])
    ∷ []

abbrev pub class_name : ℕ → List ℕ
class_name c = get_or class_names c []

-- The bytes of an atom.

-- a class is `[:name:]`
unfoldable pub write_element : Element → List ℕ
write_element (byte b) = b ∷ []
write_element (range a b) = a ∷ 45 ∷ b ∷ []
write_element (class c) = 91 ∷ 58 ∷ (class_name c ++ (58 ∷ 93 ∷ []))

unfoldable pub write_elements : List Element → List ℕ
write_elements [] = []
write_elements (e ∷ es) = write_element e ++ write_elements es

-- "Bracket: `[`, optional `^` for all keys but these, elements, `]`"
unfoldable pub write_atom : Atom → List ℕ
write_atom (plain b) = b ∷ []
write_atom dot = 46 ∷ []
write_atom (escaped b) = 92 ∷ b ∷ []
write_atom (bracket n es) = 91 ∷ (cond n (94 ∷ []) [] ++ (write_elements es ++ (93 ∷ [])))

-- The side conditions.

-- "the twelve marks": `^ . [ $ ( ) | * + ? { \`
abbrev pub marks : List ℕ
marks = 94 ∷ 46 ∷ 91 ∷ 36 ∷ 40 ∷ 41 ∷ 124 ∷ 42 ∷ 43 ∷ 63 ∷ 123 ∷ 92 ∷ []

-- the first byte of an element, and whether its last byte is `[`
abbrev pub opening : Element → ℕ
opening (byte b) = b
opening (range a b) = a
opening (class c) = 91

abbrev pub ends_open : Element → Bool
ends_open (byte b) = eqb b 91
ends_open (range a b) = eqb b 91
ends_open (class c) = false

-- `first` and `last`: whether the element is the bracket's first or last
-- "A `]` as first element is itself." "A `-` that begins an element must be first or last, or start a range as the first element."
-- "a range by byte value with first not above last"; "An element followed by `-` and then not by `]` starts a range"
unfoldable pub formed_element : Bool → Bool → Element → Bool
formed_element first last (byte b) = line_key b && ((first || not (eqb b 93)) && (first || (last || not (eqb b 45))))
formed_element first last (range a b) =
    (line_key a && line_key b) && (leb a b && ((first || (not (eqb a 93) && not (eqb a 45))) && not (eqb b 93)))
formed_element first last (class c) = ltb c 12

-- "Past the bracket's own opening `[`, a `[.` and a `[=` are refused .. as are a `[:` that begins none of the twelve classes"
abbrev pub adjacent : Element → Element → Bool
adjacent d e = not (ends_open d && member (opening e) (46 ∷ 61 ∷ 58 ∷ []))

unfoldable pub formed_elements : Bool → List Element → Bool
formed_elements first [] = false
formed_elements first (e ∷ []) = formed_element first true e
formed_elements first (e ∷ f ∷ es) = formed_element first false e && (adjacent e f && formed_elements false (f ∷ es))

-- "optional `^`": without it the first element does not begin with that byte
abbrev pub plain_start : List Element → Bool
plain_start [] = true
plain_start (e ∷ es) = not (eqb (opening e) 94)

-- "a plain byte (any but the twelve marks ..)"; "`\` before one of" them
unfoldable pub formed_atom : Atom → Bool
formed_atom (plain b) = line_key b && not (member b marks)
formed_atom dot = true
formed_atom (escaped b) = member b marks
formed_atom (bracket n es) = (n || plain_start es) && formed_elements true es
