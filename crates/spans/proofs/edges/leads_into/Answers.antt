-- `edges::leads_into`: by the tail, or by the rows.
use Rattle.spans.proofs.EdgesMade.{into-ended}
use Rattle.spans.proofs.edges.leads_into.Goals as goal

pub returns-then-a : goal.returns-then-a
returns-then-a c = search (into-ended)
