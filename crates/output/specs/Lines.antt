-- The lines that the programs print.
use Rattle.std.specs.Prelude.{ℕ, ◌≡◌, cond, List, [], ◌∷◌, ◌++◌, eqb, ℤ, pos, negsuc, nat_abs, length, take}
use Prim.Native.String.{String}
use Rattle.refusal.specs.Figures.{Figures}
use Rattle.runs.specs.Keys.{line_end}
use Rattle.runs.specs.Kept.{over}
use Rattle.decimals.specs.Decimals.{numeral}
use Rattle.decimals.specs.Texts.{ascii}
use Rattle.command.specs.Input.{Told}
use Rattle.survey.specs.declared.facts.Facts.{Facts}
use Rattle.survey.specs.Depths.{DepthTold}

-- a name and a number in decimal digits
abbrev pub field : String → ℕ → List ℕ
field name n = ascii name ++ numeral n

-- "and LF"
abbrev pub ending : List ℕ
ending = line_end ∷ []

-- "`lines N steps S` or `refused R`, and LF"
abbrev pub lines_text : ℕ → ℕ → List ℕ
lines_text lines steps = field "lines " lines ++ field " steps " steps ++ ending

abbrev pub refused_text : ℕ → List ℕ
refused_text r = field "refused " r ++ ending

unfoldable pub count_line : Told → List ℕ
count_line t = cond (eqb t.refusal 0) (lines_text t.lines t.steps) (refused_text t.refusal)

-- what a book holds, or its refusal
abbrev pub sound_text : Facts → List ℕ
sound_text f = field "sound version " f.version ++ field " macros " f.macros

abbrev pub facts_text : Facts → List ℕ
facts_text f = sound_text f ++ field " items " f.items ++ field " bytes " f.bytes ++ ending

unfoldable pub survey_line : Figures Facts → List ℕ
survey_line f = cond (eqb f.refusal 0) (facts_text f.value) (refused_text f.refusal)

-- numbers, one a line
unfoldable pub list_text : List ℕ → List ℕ
list_text [] = []
list_text (j ∷ js) = numeral j ++ ending ++ list_text js

-- a reach list: the numbers that were written, or the refusal
unfoldable pub reach_text : Figures ℕ → List ℕ → List ℕ
reach_text f list = cond (eqb f.refusal 0) (list_text (take f.value list)) (refused_text f.refusal)

-- a whole number, with its sign where it is negative
abbrev pub sign_text : ℤ → List ℕ
sign_text (pos n) = []
sign_text (negsuc n) = ascii "-"

unfoldable pub whole_text : ℤ → List ℕ
whole_text z = sign_text z ++ numeral (nat_abs z)

-- `end E lowest L` and LF
abbrev pub depths_text : ℤ → ℤ → List ℕ
depths_text end lowest = (ascii "end " ++ whole_text end) ++ (ascii " lowest " ++ whole_text lowest) ++ ending

unfoldable pub depth_line : DepthTold → List ℕ
depth_line t = cond (eqb t.refusal 0) (depths_text t.end t.lowest) (refused_text t.refusal)

-- a text stands at the front of a buffer that held `before`, which is else as it was; n is its length
pub record Line (text before after : List ℕ) (n : ℕ) : Type 0 where
  pub front : after ≡ over text before
  pub long : n ≡ length text
