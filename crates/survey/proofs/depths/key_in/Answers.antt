-- `depths::key_in`: by the length of the text, and by its number.
use borrow.Author.Rules.{rules}
use mathlib.Core.Path.{◌∙◌}
use Rattle.survey.proofs.DepthLaws.{key-byte, key-size, key-number, key-letters}
use Rattle.survey.proofs.depths.key_in.Goals as goal

pub returns-then-text-eq1 : goal.returns-then-text-eq1
returns-then-text-eq1 c = search (key-byte)

pub returns-then-text-lt2 : goal.returns-then-text-lt2
returns-then-text-lt2 c = key-size c.args.text.now c.if-text-eq1.false c.then-text-lt2.either

pub returns-in_err-number_in : goal.returns-in_err-number_in
returns-in_err-number_in c = c.from_residual.ensures ∙ search (key-letters, rules)

pub returns : goal.returns
returns c = c.ok.ensures.value ∙ search (key-number, rules)
