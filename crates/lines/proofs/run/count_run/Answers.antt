-- `run::count_run`: a refused pattern is passed on; under an accepted one the run is counted by its tables.
use Rattle.std.proofs.lemmas.Result.{err_from_is_err_and}
use Rattle.lines.proofs.Answering.{run-passed, run-answered}
use Rattle.lines.proofs.run.count_run.Goals as goal

pub returns-in_err-tables : goal.returns-in_err-tables
returns-in_err-tables c =
    let p = err_from_is_err_and c.from_residual.result c.from_residual.ensures.1 in
    rw (p.1, p.2) (run-passed c.args.case c.args.pattern.now c.args.run.now c.read_pattern.ensures.figures c.in_err-tables.was)

pub returns : goal.returns
returns c = run-answered c.args.case c.args.pattern.now c.read_pattern.ensures.tables c.args.run.now c.in_ok-tables.was c.counted.result c.counted.ensures
