-- `layout_macros`. Invariant: n macros were read, their offsets stand in the table, and reading goes on behind the last.
use native.Mathlib.Omega.{arith}
use Rattle.std.proofs.lemmas.Result.{err_from_is_err_and}
use Rattle.book.proofs.Laid.{laid_none, laid-refused, laid_more, laid-left, laid_end}
use Rattle.book.proofs.layout.layout_macros.Goals as goal

pub loop-n-init : goal.loop-n-init
loop-n-init c = (omega arith, laid_none _ c.args.s.now c.version_of-version.ensures c.args.count _ c.requires.1)

pub returns-in_err-at : goal.returns-in_err-at
returns-in_err-at c =
    let p = err_from_is_err_and c.from_residual.result c.from_residual.ensures.1 in
    let a = c.args in
    let x = c.loop-n in
    rw (p.1, p.2) (laid-refused _ a.s.now c.version_of-version.ensures a.count x.offsets x.at x.n x.invariant.1 _ (omega arith) c.whole.ensures _ c.in_err-at.was)

pub loop-n-preserved : goal.loop-n-preserved
loop-n-preserved c =
    let a = c.args in
    let x = c.loop-n in
    laid_more _ a.s.now c.version_of-version.ensures a.count x.offsets x.at x.n x.invariant.1 _ (omega arith) c.whole.ensures _ x.invariant.0 (omega arith) c.in_ok-at.was

pub returns-then-at-s : goal.returns-then-at-s
returns-then-at-s c =
    let x = c.loop-n in
    laid-left _ c.args.s.now c.version_of-version.ensures c.args.count x.offsets x.at x.n x.invariant.1 (omega arith) (omega arith) (omega arith)

pub returns : goal.returns
returns c =
    let x = c.loop-n in
    laid_end _ c.args.s.now c.version_of-version.ensures c.args.count x.offsets x.at x.n x.invariant.1 (omega arith) (omega arith) (omega arith)
