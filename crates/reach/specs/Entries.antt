-- Document 02, S-5 and S-8: the macros that a run enters, one after another, and the reach list.
use Rattle.std.specs.Prelude.{ℕ, zero, suc, cond, List, [], ◌∷◌, ◌++◌, eqb, get_or}
use Rattle.book.specs.declared.item.Item.TheVariants.{Key, Call}
use Rattle.book.specs.declared.item.Item.{Item}
use Rattle.book.specs.Format.{Macro}
use Rattle.book.specs.Expansion.{unrolled}

-- what is entered in each item in order: in a key nothing, in a call what `called` gives
unfoldable pub entries_of : (ℕ → List ℕ) → List Item → List ℕ
entries_of called [] = []
entries_of called (Key k ∷ is) = entries_of called is
entries_of called (Call j ∷ is) = called j ++ entries_of called is

-- the named macro is entered first, and then what its items call, each as often as it stands there, here down to depth d
unfoldable pub entries_to : ℕ → List Macro → ℕ → List ℕ
entries_to zero ms m = []
entries_to (suc d) ms m = m ∷ entries_of (λ j. entries_to d ms j) (unrolled (get_or ms m []))

-- The macros that the run of m enters, in order, as often as it enters them. In well-formed macros calls go to lower ones, so m
-- calls, one inside the other, are the deepest there are, and none is left out (`entries-law`).
unfoldable pub entries : List Macro → ℕ → List ℕ
entries ms m = entries_to (suc m) ms m

-- the numbers other than x
unfoldable pub without : ℕ → List ℕ → List ℕ
without x [] = []
without x (y ∷ ys) = cond (eqb y x) (without x ys) (y ∷ without x ys)

-- the first occurrence of each number, in order
unfoldable pub firsts : List ℕ → List ℕ
firsts [] = []
firsts (x ∷ xs) = x ∷ without x (firsts xs)

-- The reach list of m: "a macro stands at the place where the run first enters it, the outer one first where two are entered at
-- the same key, and the named macro at the front", "each once"
unfoldable pub reach_list : List Macro → ℕ → List ℕ
reach_list ms m = firsts (entries ms m)
