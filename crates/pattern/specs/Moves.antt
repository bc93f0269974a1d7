-- Document 01, "States and steps": the moves of a pattern's states, and those that accept.
use Rattle.std.specs.Prelude.{ℕ, zero, suc, ◌+◌, Bool, true, false, ◌&&◌, ◌||◌, List, [], ◌∷◌, eqb}
use Rattle.stateset.specs.Set.{any_below}
use Rattle.pattern.specs.States.{first_in_branch, first_in_free, ends_free, ends_anchored, follows, holds_key, empty_branch, empty_free}
use Rattle.pattern.specs.Form.{Pattern, atom_count}
use Rattle.pattern.specs.Meaning.{Query}
use Rattle.runs.specs.Keys.{line_key}

-- "line-start is 0, mid-line is 1, found is 2, atom k (from 0) is 3 + k; s = atoms + 3", whatever the sets are
abbrev pub states : Query → ℕ
states t = 3 + atom_count t.tree

-- atom j may be entered from a state: "from line-start if it can come first in a branch; from mid-line if that branch has no `^`;
-- from an atom it can follow"; from found no atom is entered
unfoldable pub enters : Pattern → ℕ → ℕ → Bool
enters t zero j = first_in_branch t j
enters t (suc zero) j = first_in_free t j
enters t (suc (suc zero)) j = false
enters t (suc (suc (suc k))) j = follows t k j

-- "Into an atom whose set has the key"
abbrev pub into : Query → ℕ → ℕ → ℕ → Bool
into t q c k = enters t.tree q k && holds_key t k c

-- "The same move also enters found if the atom can end its branch and the branch has no `$`"
abbrev pub into_end : Query → ℕ → ℕ → Bool
into_end t q c = any_below (atom_count t.tree) (λ k. into t q c k && ends_free t.tree k)

-- "If a branch can match nothing and does not have both anchors: from line-start to found on every key"
abbrev pub jumps : Pattern → ℕ → Bool
jumps t q = eqb q 0 && empty_free t

-- what key c, which is no line end, leads to from state q
unfoldable pub target : Query → ℕ → ℕ → ℕ → Bool
target t q c zero = false
-- "line-start to mid-line; mid-line to itself"
target t q c (suc zero) = eqb q 0 || eqb q 1
-- "found to itself"
target t q c (suc (suc zero)) = eqb q 2 || (jumps t.tree q || into_end t q c)
target t q c (suc (suc (suc k))) = into t q c k

-- "Moves on a key other than LF": key c leads from state q to state p
unfoldable pub move : Query → ℕ → ℕ → ℕ → Bool
move t q c p = line_key c && target t q c p

-- "Accepting: found; an atom that can end a branch with `$`; line-start if a branch can match nothing"
unfoldable pub accepting : Pattern → ℕ → Bool
accepting t zero = empty_branch t
accepting t (suc zero) = false
accepting t (suc (suc zero)) = true
accepting t (suc (suc (suc k))) = ends_anchored t k

-- the keys of w lead from state q to state p
unfoldable pub leads : Query → ℕ → List ℕ → ℕ → Bool
leads t q [] p = eqb q p
leads t q (c ∷ w) p = any_below (states t) (λ r. move t q c r && leads t r w p)

-- and to an accepting state
unfoldable pub accepted_from : Query → ℕ → List ℕ → Bool
accepted_from t q w = any_below (states t) (λ p. leads t q w p && accepting t.tree p)
