-- Document 01, "Lines", as document 02, S-4, amends it: the lines of a run, and how many of them match.
use Rattle.std.specs.Prelude.{ℕ, ◌+◌, Bool, true, false, cond, List, [], ◌∷◌, eqb}
use Rattle.pattern.specs.Meaning.{Query, matches}
use Rattle.lines.specs.Parts.{first_part, later_parts}

-- "CR (13)"
abbrev pub carriage_return : ℕ
carriage_return = 13

-- whether there is a key
abbrev pub is_open : List ℕ → Bool
is_open [] = false
is_open (c ∷ w) = true

-- the keys less a final CR, and whether there is one
unfoldable pub trimmed : List ℕ → List ℕ
trimmed [] = []
trimmed (c ∷ []) = cond (eqb carriage_return c) [] (c ∷ [])
trimmed (c ∷ d ∷ w) = c ∷ trimmed (d ∷ w)

unfoldable pub ends_in_return : List ℕ → Bool
ends_in_return [] = false
ends_in_return (c ∷ []) = eqb carriage_return c
ends_in_return (c ∷ d ∷ w) = ends_in_return (d ∷ w)

-- "Every LF closes a line, empty or not"; "A CR directly before an LF becomes part of the line end".
-- "keys after the last LF form one more line if there is at least one"; "A CR that no LF follows is a key as before, at the end of the run too".
-- Here l are the keys before the first LF, and ms those behind each.
abbrev pub lines_from : List ℕ → List (List ℕ) → List (List ℕ)
lines_from l [] = cond (is_open l) (l ∷ []) []
lines_from l (m ∷ ms) = trimmed l ∷ lines_from m ms

unfoldable pub lines : List ℕ → List (List ℕ)
lines w = lines_from (first_part w) (later_parts w)

-- how many of some lines have X
unfoldable pub count_in : (List ℕ → Bool) → List (List ℕ) → ℕ
count_in X [] = 0
count_in X (l ∷ ls) = cond (X l) 1 0 + count_in X ls

-- whether the line matches that an LF behind these keys closes
abbrev pub closed_matches : Query → List ℕ → Bool
closed_matches t l = matches t (trimmed l)

-- how many lines of a run match
unfoldable pub matching : Query → List ℕ → ℕ
matching t w = count_in (matches t) (lines w)
