-- `last::last_in`: the count of the macro that `last_macro` finds.
use Rattle.command.proofs.InputLaws.{last-counted}
use Rattle.command.proofs.last.last_in.Goals as goal

pub returns : goal.returns
returns c = search (last-counted)
