-- `Cursor::atom`: what the reader of an atom answers, with its number.
use Rattle.pattern.proofs.Atoms.{atom-place, atom-read}
use Rattle.pattern.proofs.cursor.Cursor.atom.Goals as goal

pub advanced-requires : goal.advanced-requires
advanced-requires c = search (atom-place, c.in_ok-next.ensures.place)

pub returns : goal.returns
returns c = search (atom-read, c.in_ok-next.ensures.place)
