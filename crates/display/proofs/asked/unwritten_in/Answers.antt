-- `asked::unwritten_in`.
use Rattle.std.proofs.lemmas.Result.{err_from_is_err_and}
use Rattle.display.proofs.AskedLaws.{told-other, told-place, told_none}
use Rattle.display.proofs.asked.unwritten_in.Goals as goal

pub returns-then-ne : goal.returns-then-ne
returns-then-ne c = search (told-other)

pub returns-in_err-found : goal.returns-in_err-found
returns-in_err-found c =
    let p = err_from_is_err_and c.from_residual.result c.from_residual.ensures.1 in
    rw (p.1, p.2) (told_none _ c.ne.ensures c.if-ne.false _ _ c.locate_line.ensures c.in_err-found.was)

pub returns : goal.returns
returns c = told-place _ c.ne.ensures c.if-ne.false _ _ c.locate_line.ensures c.in_ok-found.was
