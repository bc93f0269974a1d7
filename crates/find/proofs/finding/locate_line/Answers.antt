-- `finding::locate_line`: what is refused, or where the line is.
use mathlib.Core.Path.{◌≡◌, ap}
use Rattle.std.proofs.lemmas.Result.{err_from_is_err_and}
use Rattle.book.proofs.StepLaws.{book-in}
use Rattle.find.proofs.AnswerLaws.{book-nowhere, located-shown}
use Rattle.find.proofs.finding.locate_line.Goals as goal

pub returns-in_err-opened : goal.returns-in_err-opened
returns-in_err-opened c =
    let p = err_from_is_err_and c.from_residual.result c.from_residual.ensures.1 in
    let a = c.args in
    rw (p.1, p.2) (book-nowhere a.book.now _ c.in_err-opened.ensures.figures a.case _ a.m a.k a.work.now)

pub placed_line-requires : goal.placed_line-requires
placed_line-requires c =
    let b = c.in_ok-opened.opened in
    let bytes : b.bytes.now ≡ c.args.book.now = ap (λ x. x.now) c.in_ok-opened.ensures.same in
    rw (bytes) (book-in c.args.book.now b c.in_ok-opened.ensures.figures c.in_ok-opened.ensures.table)

pub returns-in_err-place : goal.returns-in_err-place
returns-in_err-place c =
    let p = err_from_is_err_and c.from_residual-in_err-place.result c.from_residual-in_err-place.ensures.1 in
    let a = c.args in
    let bytes : c.in_ok-opened.opened.bytes.now ≡ a.book.now = ap (λ x. x.now) c.in_ok-opened.ensures.same in
    rw (p.1, p.2, ← bytes) (located-shown a.case _ _ a.m a.k a.work.now c.in_err-place.ensures)

pub returns : goal.returns
returns c =
    let a = c.args in
    let bytes : c.in_ok-opened.opened.bytes.now ≡ a.book.now = ap (λ x. x.now) c.in_ok-opened.ensures.same in
    rw (← bytes) (located-shown a.case _ _ a.m a.k a.work.now c.in_ok-place.ensures)
