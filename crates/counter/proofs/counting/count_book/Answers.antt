-- `counting::count_book`: a refusal is passed on, and leaves the work words.
use mathlib.Core.Path.{◌≡◌, refl, ap}
use Rattle.std.specs.Prelude.{Ok}
use Rattle.std.proofs.lemmas.Result.{err_from_is_err_and}
use Rattle.book.proofs.StepLaws.{book-in}
use Rattle.counter.proofs.BookLaws.{book-refused, pattern-refused, size_fits, space-refused, macro-in, macro-counted}
use Rattle.counter.proofs.counting.count_book.Goals as goal

pub returns-in_err-opened : goal.returns-in_err-opened
returns-in_err-opened c =
    let p = err_from_is_err_and c.from_residual.result c.from_residual.ensures.1 in
    rw (p.1, p.2) (book-refused c.args.case c.args.book.now _ c.args.m c.args.work.now _ c.in_err-opened.ensures.figures)

pub returns-in_err-tables : goal.returns-in_err-tables
returns-in_err-tables c =
    let p = err_from_is_err_and c.from_residual-in_err-tables.result c.from_residual-in_err-tables.ensures.1 in
    let a = c.args in
    let i = book-in a.book.now c.in_ok-opened.opened c.in_ok-opened.ensures.figures c.in_ok-opened.ensures.table in
    rw (p.1, p.2) (pattern-refused i a.pattern.now c.in_err-tables.ensures.figures refl a.case a.m a.work.now)

pub overflow_add-width : goal.overflow_add-width
overflow_add-width c =
    let a = c.args in
    let i = book-in a.book.now c.in_ok-opened.opened c.in_ok-opened.ensures.figures c.in_ok-opened.ensures.table in
    record { fits = size_fits i a.case a.pattern.now c.in_ok-tables.ensures.tables a.m a.work.now refl 6 refl }

pub returns-in_err-space_for : goal.returns-in_err-space_for
returns-in_err-space_for c =
    let p = err_from_is_err_and c.from_residual-in_err-space_for.result c.from_residual-in_err-space_for.ensures.1 in
    let a = c.args in
    let i = book-in a.book.now c.in_ok-opened.opened c.in_ok-opened.ensures.figures c.in_ok-opened.ensures.table in
    rw (p.1, p.2) (space-refused i a.case a.pattern.now c.in_ok-tables.ensures.tables a.m a.work.now refl _ c.in_err-space_for.ensures refl)

pub counted_macro-requires : goal.counted_macro-requires
counted_macro-requires c =
    let a = c.args in
    let i = book-in a.book.now c.in_ok-opened.opened c.in_ok-opened.ensures.figures c.in_ok-opened.ensures.table in
    let bytes : c.in_ok-opened.opened.bytes.now ≡ a.book.now = ap (λ x. x.now) c.in_ok-opened.ensures.same in
    rw (bytes) (macro-in i a.case a.pattern.now c.in_ok-tables.ensures.tables a.m a.work.now refl (Ok tt) c.in_ok-space_for.ensures refl)

pub returns : goal.returns
returns c =
    let a = c.args in
    let i = book-in a.book.now c.in_ok-opened.opened c.in_ok-opened.ensures.figures c.in_ok-opened.ensures.table in
    let bytes : c.in_ok-opened.opened.bytes.now ≡ a.book.now = ap (λ x. x.now) c.in_ok-opened.ensures.same in
    macro-counted i a.case a.pattern.now c.in_ok-tables.ensures.tables a.m a.work.now refl (Ok tt) c.in_ok-space_for.ensures refl _ _ (rw bytes at c.counted_macro.ensures)
