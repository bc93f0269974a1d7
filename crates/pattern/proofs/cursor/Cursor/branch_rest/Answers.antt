-- `Cursor::branch_rest`: pieces, and an optional `$` behind them.
use Rattle.pattern.proofs.Anchors.{rest-pieces}
use Rattle.pattern.proofs.cursor.Cursor.branch_rest.Goals as goal

pub returns : goal.returns
returns c = search (rest-pieces, c.in_ok-here.ensures)
