-- `automaton::read_pattern`: 7 by the length, 8 by a byte 0 or 10, and else what `read_clean` answers.
use mathlib.Core.Path.{refl}
use Rattle.pattern.proofs.Readings.{tables-entered, tables-told}
use Rattle.pattern.proofs.Scans as laws
use Rattle.pattern.proofs.automaton.read_pattern.Goals as goal

pub returns-then-n : goal.returns-then-n
returns-then-n c = let e = laws.wrong-tables c.args.s.now refl c.if-n.true c.args.case in record { figures = tables-told _ _ e; entered = tables-entered _ _ e; tables = e }

pub returns-then-clean : goal.returns-then-clean
returns-then-clean c =
    let e = laws.clean-tables c.args.s.now refl c.if-n.false c.clean.ensures c.if-clean.true c.args.case c.read_clean.ensures in
    record { figures = tables-told _ _ e; entered = tables-entered _ _ e; tables = e }

pub returns : goal.returns
returns c =
    let e = laws.unclean-tables c.args.s.now refl c.if-n.false c.clean.ensures c.if-clean.false c.args.case in
    record { figures = tables-told _ _ e; entered = tables-entered _ _ e; tables = e }
