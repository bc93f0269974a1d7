-- What reading an expression makes: its shape, and the tables of keys and of states, by the definitions on its tree.
use Rattle.std.specs.Prelude.{ℕ, ◌-◌, Bool, ◌&&◌, ◌||◌, cond, List, leb, ltb}
use Rattle.std.specs.Int.Bits.{bit_or}
use Rattle.stateset.specs.Set.{bit}
use Rattle.pattern.specs.declared.shape.Shape.{Shape}
use Rattle.pattern.specs.States.{nothing, first, last, follow, holds, atom_word}
use Rattle.pattern.specs.Form.{Expr}
use Rattle.brackets.specs.Answers.{map_with}
use Rattle.brackets.specs.Sets.{Sets}

-- Tables that an expression was read into, whose atoms have the numbers from b on.

-- state q is that of an atom which is stored
abbrev pub is_atom : ℕ → Bool
is_atom q = leb 3 q && ltb q 32

-- what state q may enter of its atoms
abbrev pub follow_word : ℕ → Expr → ℕ → ℕ
follow_word b e q = atom_word (λ j. is_atom q && follow b e (q - 3) j)

-- for each key, the atoms that hold it
abbrev pub keys_after : Sets → ℕ → Expr → List ℕ → List ℕ
keys_after S b e keys = map_with (λ c x. bit_or x (atom_word (λ k. holds S b e k c))) 0 keys

-- for each state, what it may enter
abbrev pub enter_after : ℕ → Expr → List ℕ → List ℕ
enter_after b e enter = map_with (λ q x. bit_or x (follow_word b e q)) 0 enter

-- each state of `from` may enter those of `to` too
abbrev pub linked : ℕ → ℕ → List ℕ → List ℕ
linked from to enter = map_with (λ q x. cond (bit from q) (bit_or x to) x) 0 enter

-- The shape of an expression, and of two that stand one after the other or side by side.
abbrev pub shape_of : ℕ → Expr → Shape
shape_of b e = record { nothing = nothing e; first = atom_word (first b e); last = atom_word (last b e) }

abbrev pub seq_first : Shape → Shape → ℕ
seq_first p q = cond p.nothing (bit_or p.first q.first) p.first

abbrev pub seq_last : Shape → Shape → ℕ
seq_last p q = cond q.nothing (bit_or q.last p.last) q.last

abbrev pub seq_shape : Shape → Shape → Shape
seq_shape p q = record { nothing = p.nothing && q.nothing; first = seq_first p q; last = seq_last p q }

abbrev pub alt_shape : Shape → Shape → Shape
alt_shape p q = record { nothing = p.nothing || q.nothing; first = bit_or p.first q.first; last = bit_or p.last q.last }
