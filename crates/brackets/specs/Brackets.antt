-- The reader of atoms and brackets: what some bytes begin with, or a fault. A pattern holds no byte 0, so a 0 here stands for the end.
use Rattle.std.specs.Prelude.{ℕ, zero, suc, ◌+◌, Bool, true, false, not, ◌&&◌, ◌||◌, cond, List, [], ◌∷◌, ◌++◌, leb, eqb, length, get_or, take, drop}
use Rattle.std.proofs.Math.Option.{Option, none, some}
use Rattle.brackets.specs.Form.{Element, byte, range, class, Atom, plain, dot, escaped, bracket, class_name, marks}
use Rattle.runs.specs.Keys.{member}

-- what was read and the bytes after it, or a fault
pub data Parsed (A : Type 0) : Type 0 where
  parsed : A → List ℕ → Parsed A
  fault : Parsed A

abbrev pub Parser : Type 0 → Type 0
Parser A = List ℕ → Parsed A

abbrev pub done : {A : Type 0} → A → Parser A
done a l = parsed a l

abbrev pub next : {A B : Type 0} → Parsed A → (A → Parser B) → Parsed B
next (parsed a l) f = f a l
next fault f = fault

-- the byte at the front, or at a place behind it
abbrev pub at : ℕ → List ℕ → ℕ
at i l = get_or l i 0

unfoldable pub same_bytes : List ℕ → List ℕ → Bool
same_bytes [] [] = true
same_bytes [] (b ∷ bs) = false
same_bytes (a ∷ cs) [] = false
same_bytes (a ∷ cs) (b ∷ bs) = eqb a b && same_bytes cs bs

-- whether the bytes begin with class c's name and its `:]`
abbrev pub is_class : ℕ → List ℕ → Bool
is_class c l = same_bytes (take (length (class_name c) + 2) l) (class_name c ++ (58 ∷ 93 ∷ []))

-- of the k classes from c on, the first whose name and `:]` the bytes begin with
unfoldable pub find_class : ℕ → ℕ → List ℕ → Option ℕ
find_class zero c l = none
find_class (suc k) c l = cond (is_class c l) (some c) (find_class k (suc c) l)

-- "An element followed by `-` and then not by `]` starts a range"
abbrev pub starts_range : List ℕ → Bool
starts_range l = eqb (at 0 l) 45 && not (eqb (at 1 l) 93)

-- after `[:`; "a `[:` that begins none of the twelve classes and a class at either end of a range" are refused
abbrev pub class_found : Option ℕ → List ℕ → Parsed Element
class_found none l = fault
class_found (some c) l =
    let rest = drop (length (class_name c) + 2) l in
    cond (starts_range rest) fault (parsed (class c) rest)

abbrev pub read_class : Parser Element
read_class l = class_found (find_class 12 0 l) l

-- a range of two bytes; neither `[.`, `[=` nor `[:` stands at its end
abbrev pub read_range : Bool → Parser Element
read_range first l =
    cond ((first || not (eqb (at 0 l) 45)) && (leb (at 0 l) (at 2 l) && not (eqb (at 2 l) 91 && member (at 3 l) (46 ∷ 61 ∷ 58 ∷ []))))
    (parsed (range (at 0 l) (at 2 l)) (drop 3 l))
    fault

-- "A `-` that begins an element must be first or last"
abbrev pub read_byte : Bool → Parser Element
read_byte first l =
    cond (not (eqb (at 0 l) 0) && (first || (not (eqb (at 0 l) 45) || eqb (at 1 l) 93)))
    (parsed (byte (at 0 l)) (drop 1 l))
    fault

-- "a `[.` and a `[=` are refused", "a class `[:name:]`"
unfoldable pub read_element : Bool → Parser Element
read_element first l =
    cond (eqb (at 0 l) 91 && eqb (at 1 l) 58) (read_class (drop 2 l))
    (cond (eqb (at 0 l) 91 && member (at 1 l) (46 ∷ 61 ∷ [])) fault
    (cond (starts_range (drop 1 l)) (read_range first l) (read_byte first l)))

-- elements up to the `]` that closes the bracket; "A `]` as first element is itself." f bounds how many they are, the `]` counted too
unfoldable pub read_elements : ℕ → Bool → Parser (List Element)
read_elements zero first l = fault
read_elements (suc f) first l =
    cond (not first && eqb (at 0 l) 93) (parsed [] (drop 1 l))
    (next (read_element first l) (λ e m. next (read_elements f false m) (λ es. done (e ∷ es))))

-- a bracket by its elements, negated or not
abbrev pub bracket_of : ℕ → Bool → Parser Atom
bracket_of f negated l = next (read_elements f true l) (λ es. done (bracket negated es))

-- after `[`, with such a bound: "optional `^` for all keys but these, elements, `]`"
abbrev pub bounded_bracket : ℕ → Parser Atom
bounded_bracket f l = cond (eqb (at 0 l) 94) (bracket_of f true (drop 1 l)) (bracket_of f false l)

-- after `[`; an element has a byte or more, so the bytes are bound enough, and any longer bound reads the same (`bracket-bound`)
unfoldable pub read_bracket : Parser Atom
read_bracket l = bounded_bracket (length l) l

-- "Atoms: a plain byte (any but the twelve marks ..); `.` ..; `\` before one of ..; a bracket"
unfoldable pub read_atom : Parser Atom
read_atom l =
    cond (eqb (at 0 l) 46) (parsed dot (drop 1 l))
    (cond (eqb (at 0 l) 91) (read_bracket (drop 1 l))
    (cond (eqb (at 0 l) 92) (cond (member (at 1 l) marks) (parsed (escaped (at 1 l)) (drop 2 l)) fault)
    (cond (eqb (at 0 l) 0 || member (at 0 l) marks) fault (parsed (plain (at 0 l)) (drop 1 l)))))
