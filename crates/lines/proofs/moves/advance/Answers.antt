-- `moves::advance`: the words of a move.
use Rattle.lines.proofs.Reaching.{made}
use Rattle.lines.proofs.moves.advance.Goals as goal

pub returns : goal.returns
returns c = search (made)
