-- `counts::count_asked`: what is answered to the parts that were read is answered to the whole.
use mathlib.Core.Path.{ap, ◌∙◌}
use Rattle.std.specs.Prelude.{option_map}
use Rattle.command.specs.Input.{told_by}
use Rattle.command.specs.Reads.{CountsAsked}
use Rattle.command.proofs.AskedLaws.{asked_none}
use Rattle.command.proofs.ReadLaws.{counts-read}
use Rattle.command.proofs.counts.count_asked.Goals as goal

pub returns-in_err-m : goal.returns-in_err-m
unfolding CountsAsked
returns-in_err-m c b p e f = let none = c.in_err-m.was in ap (option_map told_by) c.from_residual.ensures ∙ search (asked_none, none)

pub returns : goal.returns
unfolding CountsAsked
returns c b p e f = counts-read _ _ _ _ c.number_in.ensures c.count_book.new.work _ c.in_ok-m.was c.count_book.ensures b p e f
