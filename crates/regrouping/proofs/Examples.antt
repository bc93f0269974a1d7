-- A book regrouped, computed; its steps differ.
use Prim.Native.Nat.{ℕ}
use mathlib.Core.Path.{◌≡◌, refl}
use mathlib.Core.Bool.{xor}
use mathlib.Core.List.{List, [], ◌∷◌}
use Rattle.stateset.specs.Set.{any_below}
use Rattle.runs.specs.Counts.{count_below, sum_below}
use Rattle.book.specs.declared.item.Item.TheVariants.{Key, Call}
use Rattle.book.specs.Format.{Macro, repeated}
use Rattle.book.specs.Expansion.{expand, unrolled, expand_to, expansion}
use Rattle.brackets.specs.Sets.{named, set_of}
use Rattle.letters.specs.declared.Case.TheVariants.{Sensitive}
use Rattle.letters.specs.Letters.{folded, other_case}
use Rattle.pattern.specs.Form.{atoms, atom_count}
use Rattle.pattern.specs.Meaning.{query}
use Rattle.pattern.specs.States.{nothing, first, last, follow, some_branch}
use Rattle.pattern.specs.States as positions
use Rattle.pattern.specs.Moves.{enters, target, move, leads}
use Rattle.pattern.specs.Reader.{Read, accepted, refused, read_repeat, read_expr, read_branch, read_branches, read_pattern}
use Rattle.brackets.specs.Brackets.{read_atom}
use Rattle.lines.specs.Parts.{first_part, later_parts, last_part}
use Rattle.spans.specs.Pairs.{pairs}
use Rattle.counter.specs.Counting.{item_steps, steps}
use Rattle.regrouping.specs.Regrouping.{raised, regroup}

-- macro 0 is `a`, 1 is `b` LF, 2 calls 1 and 0, has `b`, and calls 1; 3 calls 0, 2 and 1
abbrev pub book : List Macro
book = (repeated (Key 97) 1 ∷ []) ∷ (repeated (Key 98) 1 ∷ repeated (Key 10) 1 ∷ []) ∷ (repeated (Call 1) 1 ∷ repeated (Call 0) 1 ∷ repeated (Key 98) 1 ∷ repeated (Call 1) 1 ∷ []) ∷ (repeated (Call 0) 1 ∷ repeated (Call 2) 1 ∷ repeated (Call 1) 1 ∷ []) ∷ []

-- of macro 2 the call of 0 and `b` become macro 1
abbrev pub regrouped_book : List Macro
regrouped_book = (repeated (Key 97) 1 ∷ []) ∷ (repeated (Call 0) 1 ∷ repeated (Key 98) 1 ∷ []) ∷ (repeated (Key 98) 1 ∷ repeated (Key 10) 1 ∷ []) ∷ (repeated (Call 2) 1 ∷ repeated (Call 1) 1 ∷ repeated (Call 2) 1 ∷ []) ∷ (repeated (Call 0) 1 ∷ repeated (Call 3) 1 ∷ repeated (Call 2) 1 ∷ []) ∷ []

pub example-regrouped : regroup book 2 1 (repeated (Call 1) 1 ∷ []) (repeated (Call 0) 1 ∷ repeated (Key 98) 1 ∷ []) (repeated (Call 1) 1 ∷ []) ≡ regrouped_book
unfolding regroup raised
example-regrouped = refl

-- the steps under a pattern, or 0 where it is refused
abbrev pub steps_under : Read → List Macro → ℕ → ℕ
steps_under (accepted t) ms m = steps (query Sensitive t) ms m
steps_under (refused r) ms m = 0

-- under `ab` macro 2 has 26, and as macro 3 of the regrouped book 34
pub example-steps : (steps_under (read_pattern (97 ∷ 98 ∷ [])) book 2 ≡ 26) × (steps_under (read_pattern (97 ∷ 98 ∷ [])) regrouped_book 3 ≡ 34)
unfolding atoms atom_count read_atom read_repeat read_expr read_branch read_branches read_pattern named set_of folded other_case expand unrolled expand_to expansion first_part later_parts last_part sum_below pairs item_steps steps any_below count_below nothing first last follow some_branch positions.holds enters target move leads xor
example-steps = (refl, refl)
