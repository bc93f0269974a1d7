-- `line::test_line`: a refused pattern is passed on; an accepted one is tested by its tables.
use Rattle.std.proofs.lemmas.Result.{err_from_is_err_and}
use Rattle.lines.proofs.Answering.{line-passed, line-answered}
use Rattle.lines.proofs.line.test_line.Goals as goal

pub returns-in_err-tables : goal.returns-in_err-tables
returns-in_err-tables c =
    let p = err_from_is_err_and c.from_residual.result c.from_residual.ensures.1 in
    rw (p.1, p.2) (line-passed c.args.case c.args.pattern.now c.args.line.now c.read_pattern.ensures.figures c.in_err-tables.was)

pub returns : goal.returns
returns c = line-answered c.args.case c.args.pattern.now c.read_pattern.ensures.tables c.args.line.now c.in_ok-tables.was c.tested.result c.tested.ensures
