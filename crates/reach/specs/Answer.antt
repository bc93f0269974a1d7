-- What `reach_list` answers.
use Rattle.std.specs.Prelude.{ℕ, ◌+◌, ◌≡◌, cond, List, Result, Ok, Err, ltb, length}
use Rattle.refusal.specs.declared.Refusal.{Refusal}
use Rattle.refusal.specs.declared.Refusal.TheVariants.{InsufficientSpace}
use Rattle.refusal.specs.Figures.{Figures, answered, refused_for}
use Rattle.runs.specs.Kept.{over}
use Rattle.book.specs.Format.{Macro}
use Rattle.book.specs.Reading.{Reading, Reader, got, refused, ◌>>=◌}
use Rattle.book.specs.Answer.{require_macro}
use Rattle.reach.specs.Entries.{reach_list}

-- 11 after 10: "fewer .. entries than stated", which is m + 1
unfoldable pub require_entries : ℕ → ℕ → Reader (List Macro)
require_entries m entries = do
  ms ← require_macro m
  λ rest. cond (ltb entries (m + 1)) (refused InsufficientSpace) (got ms rest)

-- "the answer is how many numbers were written"
abbrev pub reach_result : Reading (List Macro) → ℕ → Figures ℕ
reach_result (got ms rest) m = answered (length (reach_list ms m))
reach_result (refused r) m = refused_for r

-- the lent list afterwards: "later entries are not touched", and a refusal leaves it "unchanged"
abbrev pub list_after : Reading (List Macro) → ℕ → List ℕ → List ℕ
list_after (got ms rest) m list = over (reach_list ms m) list
list_after (refused r) m list = list

-- the reach list of macro m: the figures of the answer, and the lent list before and after
abbrev pub ReachAnswer : Reading (List Macro) → ℕ → Figures ℕ → List ℕ → List ℕ → Type 0
ReachAnswer g m f before after = (f ≡ reach_result g m) × (after ≡ list_after g m before)

abbrev pub reached_figures : Result ℕ Refusal → Figures ℕ
reached_figures (Ok n) = answered n
reached_figures (Err r) = refused_for r
