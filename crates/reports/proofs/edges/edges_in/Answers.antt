-- `edges::edges_in`: the two low bits.
use Rattle.reports.proofs.Made.{edges-told}
use Rattle.reports.proofs.edges.edges_in.Goals as goal

pub returns : goal.returns
returns c = search (edges-told)
