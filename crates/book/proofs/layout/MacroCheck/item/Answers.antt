-- `MacroCheck::item`: each way out is a case of reading one item.
use native.Mathlib.Omega.{arith}
use mathlib.Core.Path.{◌≡◌, sym, ap, ◌∙◌}
use Rattle.std.specs.Prelude.{Option}
use Rattle.std.specs.Option.{ok_or}
use Rattle.book.specs.declared.item.Repeated.{Repeated}
use Rattle.std.proofs.lemmas.Result.{err_from_is_err_and}
use Rattle.refusal.specs.declared.Refusal.TheVariants.{MalformedBody}
use Rattle.book.proofs.Walks.{item-cut, item-fits, key-zero, call-high, times-none, times-some}
use Rattle.book.proofs.layout.MacroCheck.item.Goals as goal
use Rattle.book.proofs.layout.MacroCheck.item.Goals.{in_default-via-in-Key+else-k-eq0, in_default-via-in-Call+else-self-j}

pub returns-in_err-next : goal.returns-in_err-next
returns-in_err-next c =
    let p = err_from_is_err_and c.from_residual.result c.from_residual.ensures.1 in
    let e = c.in_err-next.ensures in
    let told = e.value ∙ ap (λ (o : Option Repeated). ok_or o MalformedBody) e.ok_part in
    let same : c.in_err-next.field-0.0 ≡ MalformedBody = cc in
    let a = c.args in
    rw (p.1, p.2, same) (item-cut a.self.now.bytes.now a.at a.self.now.n a.self.now.version (sym e.ok_part ∙ c.read_item.ensures))

pub returns-in-Key : goal.returns-in-Key
returns-in-Key c =
    let a = c.args in
    key-zero a.self.now.bytes.now a.at a.self.now.n a.self.now.version c.in_ok-next.next (sym c.in_ok-next.ensures.ok_part ∙ c.read_item.ensures) c.in-Key.k c.in-Key.is c.if-k-eq0.true

pub returns-in-Call : goal.returns-in-Call
returns-in-Call c =
    let a = c.args in
    call-high a.self.now.bytes.now a.at a.self.now.n a.self.now.version c.in_ok-next.next (sym c.in_ok-next.ensures.ok_part ∙ c.read_item.ensures) c.in-Call.j c.in-Call.is c.if-self-j.true

pub returns-in_default : goal.returns-in_default
returns-in_default c =
    let a = c.args in
    let found = sym c.in_ok-next.ensures.ok_part ∙ c.read_item.ensures in
    elim c.in_default.branch [
      | in_default-via-in-Key+else-k-eq0 w ↦ times-none a.self.now.bytes.now a.at a.self.now.n a.self.now.version c.in_ok-next.next found _ w.in-Key.is w.if-k-eq0.false c.if-next-eq0.true
      | in_default-via-in-Call+else-self-j w ↦ times-none a.self.now.bytes.now a.at a.self.now.n a.self.now.version c.in_ok-next.next found _ w.in-Call.is w.if-self-j.false c.if-next-eq0.true
    ]

pub overflow_add-result : goal.overflow_add-result
overflow_add-result c =
    let a = c.args in
    let found = sym c.in_ok-next.ensures.ok_part ∙ c.read_item.ensures in
    omega (arith, c.width_of.ensures, item-fits a.self.now.bytes.now a.at a.self.now.n a.self.now.version c.in_ok-next.next found)

pub returns-in_default-2 : goal.returns-in_default-2
returns-in_default-2 c =
    let a = c.args in
    let found = sym c.in_ok-next.ensures.ok_part ∙ c.read_item.ensures in
    elim c.in_default.branch [
      | in_default-via-in-Key+else-k-eq0 w ↦ times-some a.self.now.bytes.now a.at a.self.now.n a.self.now.version c.in_ok-next.next found _ w.in-Key.is w.if-k-eq0.false c.if-next-eq0.false c.width_of.ensures
      | in_default-via-in-Call+else-self-j w ↦ times-some a.self.now.bytes.now a.at a.self.now.n a.self.now.version c.in_ok-next.next found _ w.in-Call.is w.if-self-j.false c.if-next-eq0.false c.width_of.ensures
    ]
