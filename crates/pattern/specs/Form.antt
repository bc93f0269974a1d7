-- Document 01, "Patterns": the form of a pattern as a tree, its bytes, and the side conditions of each sentence. Atoms and brackets stand in `brackets`.
use Rattle.std.specs.Prelude.{ℕ, ◌+◌, Bool, true, false, ◌&&◌, ◌||◌, cond, List, [], ◌∷◌, ◌++◌, leb}
use Rattle.std.proofs.Math.Option.{Option, none, some}
use Rattle.brackets.specs.Form.{Atom, write_atom, formed_atom}

-- what stands inside a branch: "pieces", "an atom or a group, then at most one of `*` `+` `?`", "A group is an alternative list in parentheses"
pub data Expr : Type 0 where
  atom : Atom → Expr
  group : Expr → Expr
  star : Expr → Expr
  plus : Expr → Expr
  opt : Expr → Expr
  seq : Expr → Expr → Expr
  alt : Expr → Expr → Expr

-- "A branch is an optional `^`, pieces, an optional `$`"
pub record Branch : Type 0 where
  pub start : Bool
  pub pieces : Option Expr
  pub end : Bool

-- "A pattern is one or more branches parted by `|`"
abbrev pub Pattern : Type 0
Pattern = List Branch

-- The bytes of a tree.

unfoldable pub write : Expr → List ℕ
write (atom a) = write_atom a
write (group e) = 40 ∷ (write e ++ (41 ∷ []))
write (star e) = write e ++ (42 ∷ [])
write (plus e) = write e ++ (43 ∷ [])
write (opt e) = write e ++ (63 ∷ [])
write (seq p q) = write p ++ write q
write (alt p q) = write p ++ (124 ∷ write q)

abbrev pub write_pieces : Option Expr → List ℕ
write_pieces none = []
write_pieces (some e) = write e

unfoldable pub write_branch : Branch → List ℕ
write_branch b = cond b.start (94 ∷ []) [] ++ (write_pieces b.pieces ++ cond b.end (36 ∷ []) [])

-- branches "parted by `|`"
unfoldable pub write_pattern : Pattern → List ℕ
write_pattern [] = []
write_pattern (b ∷ []) = write_branch b
write_pattern (b ∷ c ∷ bs) = write_branch b ++ (124 ∷ write_pattern (c ∷ bs))

-- The side conditions.

-- how loosely an expression may bind where it stands: an atom or a group; a piece; pieces; an alternative list
abbrev pub single : ℕ
single = 0

abbrev pub piece : ℕ
piece = 1

abbrev pub pieces : ℕ
pieces = 2

abbrev pub alternatives : ℕ
alternatives = 3

-- "A piece is an atom or a group, then at most one of `*` `+` `?`. A group is an alternative list in parentheses, without anchors, each alternative with at least one piece"
unfoldable pub formed : Expr → ℕ → Bool
formed (atom a) l = formed_atom a
formed (group e) l = formed e alternatives
formed (star e) l = leb piece l && formed e single
formed (plus e) l = leb piece l && formed e single
formed (opt e) l = leb piece l && formed e single
formed (seq p q) l = leb pieces l && (formed p piece && formed q pieces)
formed (alt p q) l = leb alternatives l && (formed p pieces && formed q alternatives)

-- "with no anchor it needs a piece"
abbrev pub formed_pieces : Bool → Option Expr → Bool
formed_pieces anchored none = anchored
formed_pieces anchored (some e) = formed e pieces

unfoldable pub formed_branch : Branch → Bool
formed_branch b = formed_pieces (b.start || b.end) b.pieces

unfoldable pub formed_branches : Pattern → Bool
formed_branches [] = true
formed_branches (b ∷ bs) = formed_branch b && formed_branches bs

-- "A pattern is one or more branches"
unfoldable pub formed_pattern : Pattern → Bool
formed_pattern [] = false
formed_pattern (b ∷ bs) = formed_branches (b ∷ bs)

-- Every atom has P: `ignored-matches` asks this of "no negated bracket".
unfoldable pub every_atom : (Atom → Bool) → Expr → Bool
every_atom P (atom a) = P a
every_atom P (group e) = every_atom P e
every_atom P (star e) = every_atom P e
every_atom P (plus e) = every_atom P e
every_atom P (opt e) = every_atom P e
every_atom P (seq p q) = every_atom P p && every_atom P q
every_atom P (alt p q) = every_atom P p && every_atom P q

abbrev pub every_in : (Atom → Bool) → Option Expr → Bool
every_in P none = true
every_in P (some e) = every_atom P e

unfoldable pub every_of : (Atom → Bool) → Pattern → Bool
every_of P [] = true
every_of P (b ∷ bs) = every_in P b.pieces && every_of P bs

-- How many atoms there are.
unfoldable pub atoms : Expr → ℕ
atoms (atom a) = 1
atoms (group e) = atoms e
atoms (star e) = atoms e
atoms (plus e) = atoms e
atoms (opt e) = atoms e
atoms (seq p q) = atoms p + atoms q
atoms (alt p q) = atoms p + atoms q

abbrev pub atoms_in : Option Expr → ℕ
atoms_in none = 0
atoms_in (some e) = atoms e

unfoldable pub atom_count : Pattern → ℕ
atom_count [] = 0
atom_count (b ∷ bs) = atoms_in b.pieces + atom_count bs
