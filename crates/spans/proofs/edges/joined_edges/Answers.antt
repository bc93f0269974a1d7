-- `edges::joined_edges`: field by field.
use Rattle.spans.proofs.EdgesMade.{edges-made}
use Rattle.spans.proofs.edges.joined_edges.Goals as goal

pub returns : goal.returns
returns c = search (edges-made)
