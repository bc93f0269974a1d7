-- `edges::joined_trimmed`: by the right run, or by both.
use Rattle.spans.proofs.EdgesMade.{trims-both}
use Rattle.spans.proofs.edges.joined_trimmed.Goals as goal

pub returns : goal.returns
returns c = search (trims-both)
