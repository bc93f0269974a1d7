-- `AtomCursor::bracket`: the set that was read is stored.
use Rattle.brackets.proofs.Answers.{fault-place, fault-table}
use Rattle.brackets.proofs.Bracketed.{read-fault, read-place, read_table}
use Rattle.brackets.proofs.cursor.AtomCursor.bracket.Goals as goal

pub returns : goal.returns
returns c = record { place = search (read-place, c.in_ok-end.ensures); table = search (read_table, c.in_ok-end.ensures) }

pub returns-in_err-end : goal.returns-in_err-end
returns-in_err-end c = let d = c.in_err-end.ensures in record { place = rw c.from_residual.ensures (search (fault-place, read-fault, d)); table = search (fault-table, read-fault, d) }
