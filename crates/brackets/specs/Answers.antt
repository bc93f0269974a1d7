-- What the atom reader answers: the place behind an atom, and the table of keys with the atom's states in it.
use Rattle.std.specs.Prelude.{ℕ, suc, ◌-◌, cond, List, [], ◌∷◌, length, Option, Some, None}
use Rattle.std.specs.Int.Bits.{bit_or}
use Rattle.letters.specs.declared.Case.{Case}
use Rattle.brackets.specs.declared.cursor.AtomCursor.{AtomCursor}
use Rattle.brackets.specs.Form.{Atom}
use Rattle.brackets.specs.Brackets.{Parsed, parsed, fault}
use Rattle.brackets.specs.Sets.{set_of}

-- the cursor at a place
abbrev pub cursor_at : ℕ → AtomCursor
cursor_at p = record { at = p }

-- the cursor behind what was read, in a text of n bytes
abbrev pub place_behind : {A : Type 0} → ℕ → Parsed A → Option AtomCursor
place_behind n (parsed a rest) = Some (cursor_at (n - length rest))
place_behind n fault = None

-- each entry of a list changed by its place, counted from i
unfoldable pub map_with : {A : Type 0} → (ℕ → A → A) → ℕ → List A → List A
map_with f i [] = []
map_with f i (x ∷ xs) = f i x ∷ map_with f (suc i) xs

-- the table that has a word of states for each key, with these states put into the words of an atom's keys
abbrev pub keys_with : Case → Atom → ℕ → List ℕ → List ℕ
keys_with c a states keys = map_with (λ k x. cond (set_of c a k) (bit_or x states) x) 0 keys

-- the table behind an atom: a fault leaves it as it was
abbrev pub keys_behind : Case → Parsed Atom → ℕ → List ℕ → List ℕ
keys_behind c (parsed a rest) states keys = keys_with c a states keys
keys_behind c fault states keys = keys
