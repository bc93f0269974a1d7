-- Document 01, "States and steps": what can come first, follow, end or match nothing, "by the pattern's form alone, as if every
-- set held some key". Atoms are "numbered left to right": those of an expression have the numbers from b on.
use Rattle.std.specs.Prelude.{ℕ, ◌+◌, ◌-◌, Bool, true, false, not, ◌&&◌, ◌||◌, [], ◌∷◌, leb, eqb}
use Rattle.std.proofs.Math.Option.{Option, none, some}
use Rattle.stateset.specs.Set.{word}
use Rattle.brackets.specs.Sets.{Sets}
use Rattle.pattern.specs.Form.{Expr, atom, group, star, plus, opt, seq, alt, Branch, Pattern, atoms, atoms_in}
use Rattle.pattern.specs.Meaning.{Query}

-- the expression can match nothing
unfoldable pub nothing : Expr → Bool
nothing (atom a) = false
nothing (group e) = nothing e
nothing (star e) = true
nothing (plus e) = nothing e
nothing (opt e) = true
nothing (seq p q) = nothing p && nothing q
nothing (alt p q) = nothing p || nothing q

-- atom k can come first
unfoldable pub first : ℕ → Expr → ℕ → Bool
first b (atom a) k = eqb b k
first b (group e) k = first b e k
first b (star e) k = first b e k
first b (plus e) k = first b e k
first b (opt e) k = first b e k
first b (seq p q) k = first b p k || (nothing p && first (b + atoms p) q k)
first b (alt p q) k = first b p k || first (b + atoms p) q k

-- atom k can end it
unfoldable pub last : ℕ → Expr → ℕ → Bool
last b (atom a) k = eqb b k
last b (group e) k = last b e k
last b (star e) k = last b e k
last b (plus e) k = last b e k
last b (opt e) k = last b e k
last b (seq p q) k = (nothing q && last b p k) || last (b + atoms p) q k
last b (alt p q) k = last b p k || last (b + atoms p) q k

-- atom j can follow atom k
unfoldable pub follow : ℕ → Expr → ℕ → ℕ → Bool
follow b (atom a) k j = false
follow b (group e) k j = follow b e k j
follow b (star e) k j = follow b e k j || (last b e k && first b e j)
follow b (plus e) k j = follow b e k j || (last b e k && first b e j)
follow b (opt e) k j = follow b e k j
follow b (seq p q) k j = follow b p k j || (follow (b + atoms p) q k j || (last b p k && first (b + atoms p) q j))
follow b (alt p q) k j = follow b p k j || follow (b + atoms p) q k j

-- key c is in the set of atom k
unfoldable pub holds : Sets → ℕ → Expr → ℕ → ℕ → Bool
holds S b (atom a) k c = eqb b k && S a c
holds S b (group e) k c = holds S b e k c
holds S b (star e) k c = holds S b e k c
holds S b (plus e) k c = holds S b e k c
holds S b (opt e) k c = holds S b e k c
holds S b (seq p q) k c = holds S b p k c || holds S (b + atoms p) q k c
holds S b (alt p q) k c = holds S b p k c || holds S (b + atoms p) q k c

-- the same of the pieces of a branch; "A branch with no pieces takes the empty part."
abbrev pub nothing_in : Option Expr → Bool
nothing_in none = true
nothing_in (some e) = nothing e

abbrev pub in_pieces : (Expr → Bool) → Option Expr → Bool
in_pieces f none = false
in_pieces f (some e) = f e

-- some branch, whose atoms have the numbers from b on, has P
unfoldable pub some_branch : (ℕ → Branch → Bool) → ℕ → Pattern → Bool
some_branch P b [] = false
some_branch P b (r ∷ rs) = P b r || some_branch P (b + atoms_in r.pieces) rs

-- atom k can come first in a branch; and in a branch that "has no `^`"
abbrev pub first_in_branch : Pattern → ℕ → Bool
first_in_branch t k = some_branch (λ b r. in_pieces (λ e. first b e k) r.pieces) 0 t

abbrev pub first_in_free : Pattern → ℕ → Bool
first_in_free t k = some_branch (λ b r. not r.start && in_pieces (λ e. first b e k) r.pieces) 0 t

-- it "can end its branch", which "has no `$`"; or has one
abbrev pub ends_free : Pattern → ℕ → Bool
ends_free t k = some_branch (λ b r. not r.end && in_pieces (λ e. last b e k) r.pieces) 0 t

abbrev pub ends_anchored : Pattern → ℕ → Bool
ends_anchored t k = some_branch (λ b r. r.end && in_pieces (λ e. last b e k) r.pieces) 0 t

abbrev pub follows : Pattern → ℕ → ℕ → Bool
follows t k j = some_branch (λ b r. in_pieces (λ e. follow b e k j) r.pieces) 0 t

abbrev pub holds_key : Query → ℕ → ℕ → Bool
holds_key t k c = some_branch (λ b r. in_pieces (λ e. holds t.sets b e k c) r.pieces) 0 t.tree

-- "a branch can match nothing"; "and does not have both anchors"
abbrev pub empty_branch : Pattern → Bool
empty_branch t = some_branch (λ b r. nothing_in r.pieces) 0 t

abbrev pub empty_free : Pattern → Bool
empty_free t = some_branch (λ b r. nothing_in r.pieces && not (r.start && r.end)) 0 t

-- States: "line-start is 0, mid-line is 1, found is 2, atom k (from 0) is 3 + k"; at most 29 atoms, so 32 states
abbrev pub atom_state : (ℕ → Bool) → ℕ → Bool
atom_state X p = leb 3 p && X (p - 3)

-- the word of the states of the atoms that have X
abbrev pub atom_word : (ℕ → Bool) → ℕ
atom_word X = word 32 (λ p. atom_state X p)
