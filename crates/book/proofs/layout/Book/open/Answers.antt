-- `Book::open`: what is laid out.
use mathlib.Core.Path.{refl}
use Rattle.std.proofs.lemmas.Result.{err_from_is_err_and}
use Rattle.book.proofs.layout.Book.open.Goals as goal

pub returns-in_err-book : goal.returns-in_err-book
returns-in_err-book c =
    let p = err_from_is_err_and c.from_residual.result c.from_residual.ensures.1 in
    record { figures = rw (p.1, p.2) (c.in_err-book.ensures.figures); table = rw (p.1) tt; same = rw (p.1) tt }

pub returns : goal.returns
returns c = record { figures = c.in_ok-book.ensures.figures; table = c.in_ok-book.ensures.table; same = refl }
