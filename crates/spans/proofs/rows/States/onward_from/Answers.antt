-- `States::onward_from`: the image, cut to the states of the pattern.
use Rattle.spans.proofs.RowLaws.{onward-made}
use Rattle.spans.proofs.rows.States.onward_from.Goals as goal

pub returns : goal.returns
returns c = search (onward-made)
