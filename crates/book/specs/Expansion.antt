-- Documents 01, "The book", and 02, S-8: the run of a macro, written out, here its expansion.
use Rattle.std.specs.Prelude.{ℕ, zero, suc, List, [], ◌∷◌, ◌++◌, get_or, replicate}
use Rattle.book.specs.declared.item.Item.{Item}
use Rattle.book.specs.declared.item.Item.TheVariants.{Key, Call}
use Rattle.book.specs.Format.{Macro}

-- a key is itself, a call is "replaced by the called macro's written-out run", which `called` gives
abbrev pub keys_of : (ℕ → List ℕ) → Item → List ℕ
keys_of called (Key k) = k ∷ []
keys_of called (Call j) = called j

-- "its items in order, each call replaced by the called macro's written-out run"
unfoldable pub expand : (ℕ → List ℕ) → List Item → List ℕ
expand called [] = []
expand called (i ∷ is) = keys_of called i ++ expand called is

-- "The run has the item that many times": a macro's items, each written out as often as it stands there
unfoldable pub unrolled : Macro → List Item
unrolled [] = []
unrolled (i ∷ is) = replicate i.times i.item ++ unrolled is

-- calls replaced down to depth d, and left out below that
unfoldable pub expand_to : ℕ → List Macro → ℕ → List ℕ
expand_to zero ms m = []
expand_to (suc d) ms m = expand (λ j. expand_to d ms j) (unrolled (get_or ms m []))

-- The run of macro m, written out. In well-formed macros calls go to lower ones, so m calls, one inside the other, are the
-- deepest there are, and none is left out.
unfoldable pub expansion : List Macro → ℕ → List ℕ
expansion ms m = expand_to (suc m) ms m
