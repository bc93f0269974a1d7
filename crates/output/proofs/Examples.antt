-- Worked examples of the printed lines, computed.
use mathlib.Core.Path.{◌≡◌, refl}
use mathlib.Core.List.{[], ◌∷◌}
use Rattle.refusal.specs.declared.Refusal.{Refusal}
use Rattle.decimals.specs.Decimals.{numeral_to, numeral}
use Rattle.decimals.specs.Texts.{ascii}
use Rattle.std.specs.Prelude.{Ok, Err}
use Rattle.command.specs.Input.{told_by, program_answer}
use Rattle.command.proofs.PaperRuns.{example, example-told}
use Rattle.std.specs.Prelude.{Ok}
use Rattle.survey.specs.Facts.{survey_figures}
use Rattle.output.specs.Lines.{count_line, survey_line, list_text}

-- what document 01's program prints for its example
pub paper-line : count_line (program_answer example) ≡ ascii "lines 2 steps 17\n"
unfolding count_line numeral numeral_to
paper-line = rw example-told refl

refused-line : count_line (told_by (Err Refusal.CountOverflow)) ≡ ascii "refused 12\n"
unfolding count_line numeral numeral_to
refused-line = refl

sound-line : survey_line (survey_figures (Ok (record { version = 1; macros = 1024; items = 65536; bytes = 133127 }))) ≡ ascii "sound version 1 macros 1024 items 65536 bytes 133127\n"
unfolding survey_line numeral numeral_to
sound-line = refl

list-lines : list_text (10 ∷ 0 ∷ 7 ∷ []) ≡ ascii "10\n0\n7\n"
unfolding list_text numeral numeral_to
list-lines = refl
