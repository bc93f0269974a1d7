-- `reporting::depth`: what is refused before leaves the work words.
use mathlib.Core.Path.{◌≡◌, ap}
use Rattle.std.proofs.lemmas.Result.{err_from_is_err_and}
use Rattle.depth.proofs.AnswerLaws.{keys-refused, book-refused, space-refused, book-fits, depth-done}
use Rattle.depth.proofs.reporting.depth.Goals as goal

pub returns-then-are_invalid : goal.returns-then-are_invalid
returns-then-are_invalid c = search (keys-refused)

pub returns-in_err-book : goal.returns-in_err-book
returns-in_err-book c =
    let p = err_from_is_err_and c.from_residual.result c.from_residual.ensures.1 in
    rw (p.1, p.2) (book-refused c.args.opening c.args.closing c.are_invalid.ensures c.if-are_invalid.false c.args.book.now c.args.m c.args.work.now _ c.in_err-book.ensures.figures)

pub returns-in_err-space_for : goal.returns-in_err-space_for
returns-in_err-space_for c =
    let p = err_from_is_err_and c.from_residual-in_err-space_for.result c.from_residual-in_err-space_for.ensures.1 in
    rw (p.1, p.2) (space-refused c.args.opening c.args.closing c.are_invalid.ensures c.if-are_invalid.false c.args.book.now c.args.m c.args.work.now c.in_ok-book.book c.in_ok-book.ensures.figures _ c.in_err-space_for.ensures)

pub depths_in-requires : goal.depths_in-requires
depths_in-requires c =
    let a = c.args in
    let k = c.in_ok-book.book in
    let bytes : k.bytes.now ≡ a.book.now = ap (λ x. x.now) c.in_ok-book.ensures.same in
    rw bytes (book-fits a.opening a.closing c.are_invalid.ensures c.if-are_invalid.false a.book.now a.m a.work.now k c.in_ok-book.ensures.figures c.in_ok-space_for.ensures c.in_ok-book.ensures.table)

pub returns : goal.returns
returns c =
    let a = c.args in
    let k = c.in_ok-book.book in
    let bytes : k.bytes.now ≡ a.book.now = ap (λ x. x.now) c.in_ok-book.ensures.same in
    depth-done a.opening a.closing c.are_invalid.ensures c.if-are_invalid.false a.book.now a.m a.work.now k c.in_ok-book.ensures.figures c.in_ok-space_for.ensures c.depths_in.new.work c.depths_in.result (rw bytes at c.depths_in.ensures)
