-- Document 02, S-5 and S-8: the places of a run at which it enters a macro.
use Rattle.std.specs.Prelude.{ℕ, ◌+◌, ◌≤◌, ◌≡◌, List, [], ◌∷◌, ◌++◌, length, get_or}
use Rattle.book.specs.declared.item.Item.{Item}
use Rattle.book.specs.declared.item.Item.TheVariants.{Call}
use Rattle.book.specs.Format.{Macro}
use Rattle.book.specs.Expansion.{expand, unrolled, expansion}

-- how many keys of the run some items write
abbrev pub keys_in : List Macro → List Item → ℕ
keys_in ms is = length (expand (λ j. expansion ms j) is)

-- the written-out run of m enters macro j behind p of its keys
pub data Enters (ms : List Macro) : ℕ → ℕ → ℕ → Type 0 where
  itself : {m : ℕ} → Enters ms m m 0
  through : {m i j p q : ℕ} (before after : List Item) → unrolled (get_or ms m []) ≡ before ++ (Call i ∷ after) → Enters ms i j q → p ≡ keys_in ms before + q → Enters ms m j p

-- "the place where the run first enters it"
pub record FirstEnters (ms : List Macro) (m j p : ℕ) : Type 0 where
  pub enters : Enters ms m j p
  pub first : (q : ℕ) → Enters ms m j q → p ≤ q
