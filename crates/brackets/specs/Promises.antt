-- What private functions promise each other; no public contract cites these.
use Rattle.std.specs.Prelude.{ℕ, ◌+◌, ◌<◌, ◌≡◌, Bool, true, false, ◌&&◌, ◌||◌, cond, List, [], ◌∷◌, ◌++◌, map, length, get_or, drop, Option, Some, None}
use Rattle.std.specs.Bool.{xor}
use Rattle.std.proofs.Math.Option as math
use Rattle.std.specs.Int.Bits.{bit_or}
use Rattle.brackets.specs.declared.class.Class.{Class}
use Rattle.brackets.specs.declared.cursor.AtomCursor.{AtomCursor}
use Rattle.brackets.specs.declared.element.Element as declared
use Rattle.brackets.specs.Form.{Element, byte, range, class, class_names, class_name, write_element}
use Rattle.brackets.specs.Brackets.{Parsed, parsed, fault, read_elements}
use Rattle.brackets.specs.Sets.{Range, to, class_ranges, in_element, in_elements}
use Rattle.brackets.specs.Answers.{cursor_at, place_behind, map_with}
use Rattle.letters.specs.declared.Case.{Case}
use Rattle.letters.specs.Letters.{folded}
use Rattle.runs.specs.Keys.{line_key}

-- an entry of a set, with the bytes of an element added, or of some elements
unfoldable pub with_element : Element → ℕ → Bool → Bool
with_element e k x = x || in_element k e

unfoldable pub with_elements : List Element → ℕ → Bool → Bool
with_elements es k x = x || in_elements k es

-- "Every set says no for 0 and for LF": a key of a set of bytes with its letters folded, or of all others if it is negated
unfoldable pub has_key : Case → List Bool → Bool → ℕ → Bool
has_key c set negated k = line_key k && xor negated (folded c (λ j. get_or set j false) k)

-- a key's word, with these states put into it if the key is in the set
unfoldable pub with_key : Case → List Bool → Bool → ℕ → ℕ → ℕ → ℕ
with_key c set negated states k x = cond (has_key c set negated k) (bit_or x states) x

abbrev pub ranges_of : ℕ → List Range
ranges_of c = get_or class_ranges c []

-- the code's table: each class has its name, with the `:]` behind it, and its ranges
pub record ClassTable (rows : List Class) : Type 0 where
  pub texts : map (λ row. row.text.now) rows ≡ map (λ name. name ++ (58 ∷ 93 ∷ [])) class_names
  pub ranges : map (λ row. map (λ r. to r.0 r.1) row.ranges.now) rows ≡ class_ranges

-- the answer of the search for a class, whose name is read at a place
abbrev pub class_shown : ℕ → math.Option ℕ → Option (ℕ × AtomCursor)
class_shown at (math.some c) = Some (c, cursor_at (at + (length (class_name c) + 2)))
class_shown at math.none = None

-- an element as the code has it
abbrev pub shown_element : Element → declared.Element
shown_element (byte b) = declared.Element.Byte b
shown_element (range a b) = declared.Element.Range a b
shown_element (class c) = declared.Element.Class c

-- and the other way
abbrev pub element_of : declared.Element → Element
element_of (declared.Element.Byte b) = byte b
element_of (declared.Element.Range a b) = range a b
element_of (declared.Element.Class c) = class c

-- the answer of the reading of an element at a place
abbrev pub element_shown : ℕ → Parsed Element → Option (declared.Element × AtomCursor)
element_shown at (parsed e rest) = Some (shown_element e, cursor_at (at + length (write_element e)))
element_shown at fault = None

-- a class is one of the twelve
abbrev pub Known : Element → Type 0
Known (byte b) = Unit
Known (range a b) = Unit
Known (class c) = c < 12

-- the elements from a place on, up to the `]` that closes the bracket
unfoldable pub elements_from : ℕ → List ℕ → Parsed (List Element)
elements_from start l = read_elements (length l) true (drop start l)

-- the reading of a bracket's elements in a text of n bytes: the set before and after, and the answer; after a fault nobody looks at the set
unfoldable pub ElementsDone : ℕ → Parsed (List Element) → List Bool → List Bool → Option AtomCursor → Type 0
ElementsDone n (parsed es rest) before after r = (r ≡ place_behind n (parsed es rest)) × (after ≡ map_with (with_elements es) 0 before)
ElementsDone n fault before after r = r ≡ None
