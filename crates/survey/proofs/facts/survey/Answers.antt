-- `facts::survey`: what the opened book says, and the sum of its items.
use mathlib.Core.Path.{◌≡◌, refl, ap}
use Rattle.std.proofs.lemmas.Result.{err_from_is_err_and}
use Rattle.survey.proofs.FactLaws.{facts-refused, facts-sound}
use Rattle.survey.proofs.facts.survey.Goals as goal

pub returns-in_err-book : goal.returns-in_err-book
returns-in_err-book c =
    let p = err_from_is_err_and c.from_residual.result c.from_residual.ensures.1 in
    rw (p.1, p.2) (facts-refused c.args.book.now _ c.in_err-book.ensures.figures)

pub returns : goal.returns
returns c =
    let b = c.args.book.now in
    let k = c.in_ok-book.book in
    let e = c.in_ok-book.ensures in
    let bytes : k.bytes.now ≡ b = ap (λ x. x.now) e.same in
    facts-sound b k e.figures e.table (rw (bytes) at c.version.ensures) (rw (bytes) at c.items_below.ensures) (rw (bytes) refl)
