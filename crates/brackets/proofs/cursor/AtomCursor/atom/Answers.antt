-- `AtomCursor::atom`: each way out is a case of reading an atom.
use Rattle.brackets.proofs.Answers.{fault-place, fault-table}
use Rattle.brackets.proofs.Atoms.{atom-end, dot-place, dot-table, bracket-place, bracket-table, atom-unescaped, escaped-place, escaped-table, atom-mark, plain-place, plain-table}
use Rattle.brackets.proofs.cursor.AtomCursor.atom.Goals as goal

pub returns-in_err-b : goal.returns-in_err-b
returns-in_err-b c =
    let h = atom-end _ _ c.in_err-b.ensures.lookup.3 in
    record { place = rw c.from_residual.ensures (fault-place _ _ h); table = fault-table _ _ _ _ h }

pub returns-in-46 : goal.returns-in-46
returns-in-46 c = let (inside, h) = c.in_ok-b.ensures.lookup.3 in record { place = search (dot-place, inside, h 0); table = search (dot-table, h 0) }

pub returns-in-91 : goal.returns-in-91
returns-in-91 c = let h = c.in_ok-b.ensures.lookup.3.1 0 in record { place = search (bracket-place, h); table = search (bracket-table, h) }

pub returns-then-not-is_mark : goal.returns-then-not-is_mark
returns-then-not-is_mark c = let h = c.in_ok-b.ensures.lookup.3.1 0 in record { place = search (fault-place, atom-unescaped, h); table = search (fault-table, atom-unescaped, h) }

pub returns-else-not-is_mark : goal.returns-else-not-is_mark
returns-else-not-is_mark c = let h = c.in_ok-b.ensures.lookup.3.1 0 in record { place = search (escaped-place, h); table = search (escaped-table, h) }

pub returns-then-b-is_mark : goal.returns-then-b-is_mark
returns-then-b-is_mark c = let h = c.in_ok-b.ensures.lookup.3.1 0 in record { place = search (fault-place, atom-mark, h); table = search (fault-table, atom-mark, h) }

pub returns-else-b-is_mark : goal.returns-else-b-is_mark
returns-else-b-is_mark c = let (inside, h) = c.in_ok-b.ensures.lookup.3 in record { place = search (plain-place, inside, h 0); table = search (plain-table, h 0) }
