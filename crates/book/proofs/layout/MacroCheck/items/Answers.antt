-- `MacroCheck::items`. Invariant: reading the items that are left, from here, ends as reading all of them does.
use Prim.Native.Nat.{◌+◌, ◌-◌}
use native.Mathlib.Omega.{arith}
use Rattle.std.proofs.lemmas.Result.{err_from_is_err_and}
use Rattle.book.proofs.Walks.{items_refused, items-on, items-done}
use Rattle.book.proofs.layout.MacroCheck.items.Goals as goal

pub returns-in_err-at : goal.returns-in_err-at
returns-in_err-at c =
    let p = err_from_is_err_and c.from_residual.result c.from_residual.ensures.1 in
    let a = c.args in
    rw (p.1, p.2) (items_refused a.self.now.bytes.now a.self.now.version a.self.now.n c.loop.at _ (a.count - (c.loop.counter + 1)) _ _ c.item.ensures c.loop.invariant.1 (omega arith) _ c.in_err-at.was)

pub loop-preserved : goal.loop-preserved
loop-preserved c =
    let a = c.args in
    items-on a.self.now.bytes.now a.self.now.version a.self.now.n c.loop.at _ (a.count - (c.loop.counter + 1)) _ _ c.item.ensures c.loop.invariant.1 (omega arith) _ c.loop.invariant.0 c.in_ok-at.was

pub returns : goal.returns
returns c = let a = c.args in items-done a.self.now.bytes.now a.self.now.version a.self.now.n c.loop.at _ _ c.loop.invariant.1 (omega arith) c.loop.invariant.0
