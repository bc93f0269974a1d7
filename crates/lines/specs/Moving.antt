-- Document 01, "States and steps": a move of a set of states, by its meaning and by look-up.
use Rattle.std.specs.Prelude.{ℕ, ◌%◌, ◌^◌, Bool, cond, ◌&&◌, List, get_or}
use Rattle.std.specs.Int.Bits.{bit_and, bit_or}
use Rattle.stateset.specs.Set.{bit, word, any_below, common, image_of}
use Rattle.pattern.specs.Meaning.{Query}
use Rattle.pattern.specs.declared.automaton.Accepting.{Accepting}
use Rattle.pattern.specs.Moves.{move, leads}

-- the states that key c leads to from the states of x
unfoldable pub moved : Query → ℕ → ℕ → ℕ
moved t x c = word 32 (λ p. any_below 32 (λ q. bit x q && move t q c p))

-- the states that the keys of w lead to from line-start
unfoldable pub reached : Query → List ℕ → ℕ
reached t w = word 32 (leads t 0 w)

-- the set of line-start alone, as a shifted word
abbrev pub start_set : ℕ
start_set = 2 ^ 0 % 2 ^ 64

-- a set of states has an accepting one
abbrev pub has_accepting : Accepting → ℕ → Bool
has_accepting a x = common 64 x a.accepting

-- the atoms that are entered on key k
abbrev pub entered : List ℕ → List ℕ → ℕ → ℕ → ℕ
entered keys enter x k = bit_and (image_of enter x) (get_or keys k 0)

-- What is looked up in any tables: the atoms entered; mid-line (2) from line-start and mid-line (1 and 2); found (4) from the states
-- that every key leads there, and where an atom entered is one whose entering enters found. That this is the move where the tables
-- are a pattern's is the law `looked-up`.
unfoldable pub looked_up : List ℕ → List ℕ → Accepting → ℕ → ℕ → ℕ
looked_up keys enter a x k =
    bit_or (bit_or (entered keys enter x k) (cond (common 64 x (bit_or 1 2)) 2 0))
    (bit_or (cond (common 64 x a.always) 4 0) (cond (common 64 (entered keys enter x k) a.ends) 4 0))
