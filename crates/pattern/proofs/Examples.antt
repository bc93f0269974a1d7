-- Worked examples of the definitions, computed.
use Prim.Native.Nat.{ℕ}
use mathlib.Core.Path.{◌≡◌, refl}
use mathlib.Core.List.{List, [], ◌∷◌}
use Rattle.refusal.specs.Number.{number}
use Rattle.brackets.specs.Form.{class_names}
use Rattle.pattern.specs.Reader.{Read, accepted, refused, read_repeat, read_expr, read_branch, read_branches, read_pattern}
use Rattle.brackets.specs.Brackets.{same_bytes, find_class, read_element, read_elements, read_bracket, read_atom}
use Rattle.pattern.specs.Form.{atoms, atom_count}

-- 0 if accepted, else the refusal's number
verdict : Read → ℕ
verdict (accepted t) = 0
verdict (refused r) = number r

verdicts : List (List ℕ) → List ℕ
verdicts [] = []
verdicts (p ∷ ps) = verdict (read_pattern p) ∷ verdicts ps

-- refused with 8
bad-patterns : List (List ℕ)
bad-patterns =
    (97 ∷ 42 ∷ 42 ∷ [])  -- a**
    ∷ (97 ∷ 43 ∷ 42 ∷ [])  -- a+*
    ∷ (40 ∷ 41 ∷ [])  -- ()
    ∷ (97 ∷ 124 ∷ 124 ∷ 98 ∷ [])  -- a||b
    ∷ (124 ∷ 97 ∷ [])  -- |a
    ∷ (97 ∷ 124 ∷ [])  -- a|
    ∷ (40 ∷ 124 ∷ 97 ∷ 41 ∷ [])  -- (|a)
    ∷ (40 ∷ 97 ∷ [])  -- (a
    ∷ (97 ∷ 41 ∷ [])  -- a)
    ∷ (123 ∷ [])  -- {
    ∷ (97 ∷ 123 ∷ 49 ∷ 125 ∷ [])  -- a{1}
    ∷ (94 ∷ 42 ∷ [])  -- ^*
    ∷ (97 ∷ 94 ∷ 98 ∷ [])  -- a^b
    ∷ (97 ∷ 36 ∷ 98 ∷ [])  -- a$b
    ∷ (40 ∷ 94 ∷ 97 ∷ 41 ∷ [])  -- (^a)
    ∷ (40 ∷ 97 ∷ 36 ∷ 41 ∷ [])  -- (a$)
    ∷ (92 ∷ [])  -- \
    ∷ (92 ∷ 97 ∷ [])  -- \a
    ∷ (92 ∷ 93 ∷ [])  -- \]
    ∷ (91 ∷ 122 ∷ 45 ∷ 97 ∷ 93 ∷ [])  -- [z-a]
    ∷ (91 ∷ 93 ∷ [])  -- []
    ∷ (91 ∷ 94 ∷ 93 ∷ [])  -- [^]
    ∷ (91 ∷ 97 ∷ [])  -- [a
    ∷ (91 ∷ 91 ∷ 46 ∷ 97 ∷ 46 ∷ 93 ∷ 93 ∷ [])  -- [[.a.]]
    ∷ (91 ∷ 91 ∷ 61 ∷ 97 ∷ 61 ∷ 93 ∷ 93 ∷ [])  -- [[=a=]]
    ∷ (91 ∷ 91 ∷ 58 ∷ 102 ∷ 111 ∷ 111 ∷ 58 ∷ 93 ∷ 93 ∷ [])  -- [[:foo:]]
    ∷ (91 ∷ 91 ∷ 58 ∷ 97 ∷ 108 ∷ 112 ∷ 104 ∷ 97 ∷ 58 ∷ 93 ∷ [])  -- [[:alpha:]
    ∷ (91 ∷ 97 ∷ 45 ∷ 91 ∷ 58 ∷ 100 ∷ 105 ∷ 103 ∷ 105 ∷ 116 ∷ 58 ∷ 93 ∷ 93 ∷ [])  -- [a-[:digit:]]
    ∷ (91 ∷ 91 ∷ 58 ∷ 100 ∷ 105 ∷ 103 ∷ 105 ∷ 116 ∷ 58 ∷ 93 ∷ 45 ∷ 97 ∷ 93 ∷ [])  -- [[:digit:]-a]
    ∷ (91 ∷ 97 ∷ 45 ∷ 99 ∷ 45 ∷ 101 ∷ 93 ∷ [])  -- [a-c-e]
    ∷ (91 ∷ 97 ∷ 45 ∷ 98 ∷ 45 ∷ 99 ∷ 93 ∷ [])  -- [a-b-c]
    ∷ []

bad-refused : verdicts bad-patterns ≡ 8 ∷ 8 ∷ 8 ∷ 8 ∷ 8 ∷ 8 ∷ 8 ∷ 8 ∷ 8 ∷ 8 ∷ 8 ∷ 8 ∷ 8 ∷ 8 ∷ 8 ∷ 8 ∷ 8 ∷ 8 ∷ 8 ∷ 8 ∷ 8 ∷ 8 ∷ 8 ∷ 8 ∷ 8 ∷ 8 ∷ 8 ∷ 8 ∷ 8 ∷ 8 ∷ 8 ∷ []
unfolding bad-patterns verdict verdicts class_names atoms atom_count same_bytes find_class read_element read_elements read_bracket read_atom read_repeat read_expr read_branch read_branches read_pattern
bad-refused = refl

-- accepted
good-patterns : List (List ℕ)
good-patterns =
    (93 ∷ [])  -- ]
    ∷ (125 ∷ [])  -- }
    ∷ (97 ∷ 125 ∷ [])  -- a}
    ∷ (91 ∷ 93 ∷ 97 ∷ 93 ∷ [])  -- []a]
    ∷ (91 ∷ 94 ∷ 93 ∷ 97 ∷ 93 ∷ [])  -- [^]a]
    ∷ (91 ∷ 97 ∷ 93 ∷ 98 ∷ 93 ∷ [])  -- [a]b]
    ∷ (91 ∷ 93 ∷ 45 ∷ 97 ∷ 93 ∷ [])  -- []-a]
    ∷ (91 ∷ 45 ∷ 45 ∷ 47 ∷ 93 ∷ [])  -- [--/]
    ∷ (91 ∷ 45 ∷ 45 ∷ 45 ∷ 93 ∷ [])  -- [---]
    ∷ (91 ∷ 45 ∷ 45 ∷ 93 ∷ [])  -- [--]
    ∷ (91 ∷ 45 ∷ 97 ∷ 93 ∷ [])  -- [-a]
    ∷ (91 ∷ 97 ∷ 45 ∷ 93 ∷ [])  -- [a-]
    ∷ (91 ∷ 97 ∷ 45 ∷ 98 ∷ 45 ∷ 93 ∷ 99 ∷ 93 ∷ [])  -- [a-b-]c]
    ∷ (91 ∷ 94 ∷ 45 ∷ 97 ∷ 93 ∷ [])  -- [^-a]
    ∷ (91 ∷ 43 ∷ 45 ∷ 45 ∷ 93 ∷ [])  -- [+--]
    ∷ (91 ∷ 97 ∷ 92 ∷ 93 ∷ [])  -- [a\]
    ∷ (91 ∷ 46 ∷ 93 ∷ [])  -- [.]
    ∷ (91 ∷ 91 ∷ 93 ∷ [])  -- [[]
    ∷ (91 ∷ 65 ∷ 45 ∷ 91 ∷ 93 ∷ [])  -- [A-[]
    ∷ (91 ∷ 91 ∷ 58 ∷ 100 ∷ 105 ∷ 103 ∷ 105 ∷ 116 ∷ 58 ∷ 93 ∷ 45 ∷ 93 ∷ [])  -- [[:digit:]-]
    ∷ (94 ∷ [])  -- ^
    ∷ (36 ∷ [])  -- $
    ∷ (94 ∷ 36 ∷ [])  -- ^$
    ∷ (97 ∷ 124 ∷ 94 ∷ 124 ∷ 36 ∷ [])  -- a|^|$
    ∷ (94 ∷ 97 ∷ 124 ∷ 98 ∷ 36 ∷ [])  -- ^a|b$
    ∷ (46 ∷ 42 ∷ [])  -- .*
    ∷ []

good-accepted : verdicts good-patterns ≡ 0 ∷ 0 ∷ 0 ∷ 0 ∷ 0 ∷ 0 ∷ 0 ∷ 0 ∷ 0 ∷ 0 ∷ 0 ∷ 0 ∷ 0 ∷ 0 ∷ 0 ∷ 0 ∷ 0 ∷ 0 ∷ 0 ∷ 0 ∷ 0 ∷ 0 ∷ 0 ∷ 0 ∷ 0 ∷ 0 ∷ []
unfolding good-patterns verdict verdicts class_names atoms atom_count same_bytes find_class read_element read_elements read_bracket read_atom read_repeat read_expr read_branch read_branches read_pattern
good-accepted = refl
