-- `book::body`: each way out is a case of what is read of macro m.
use native.Mathlib.Omega.{arith}
use Prim.Native.Nat.{ℕ, ◌<◌}
use mathlib.Core.Path.{ap, ◌∙◌}
use mathlib.Core.List.{List}
use lib.ListN.{length}
use Rattle.book.specs.Reading.{macros_in}
use Rattle.book.specs.MacroItems.{part_from, part_at}
use Rattle.book.specs.Answer.{require_macro}
use Rattle.book.proofs.LayoutLaws.{opened-refused, checked-sound, checked-count}
use Rattle.book.proofs.Requiring.{require-refused, require-out, require-in}
use Rattle.book.proofs.Bodies.{part-is, part-at, body-none, body-some}
use Rattle.book.proofs.answers.body.Goals as goal

pub returns-then-macros-m : goal.returns-then-macros-m
returns-then-macros-m c =
    let a = c.args in
    let b = a.book.now in
    let e = c.in-Ok.ensures.figures in
    let out = require-out a.m b (checked-sound b _ e) (omega (arith, checked-count b _ e)) in
    let both = body-none b a.book.ref_ptr a.m (require_macro a.m b) _ _ out c.code-then-macros-m.ensures in
    record { part = both.0; offset = both.1.0; number = both.1.1 }

pub returns-in-Err : goal.returns-in-Err
returns-in-Err c =
    let a = c.args in
    let b = a.book.now in
    let out = require-refused a.m b (opened-refused b c.in-Err.ensures.figures) in
    let both = body-none b a.book.ref_ptr a.m (require_macro a.m b) _ _ out c.code.ensures in
    record { part = both.0; offset = both.1.0; number = both.1.1 }

pub returns-else-macros-m : goal.returns-else-macros-m
returns-else-macros-m c =
    let a = c.args in
    let b = a.book.now in
    let e = c.in-Ok.ensures.figures in
    let table = c.in-Ok.ensures.table in
    let inside : a.m < length (macros_in b) = omega (arith, checked-count b _ e) in
    let part = ap (λ (o : List ℕ). part_from b o a.m) table ∙ part-is b a.m inside in
    let place = ap (λ (o : List ℕ). part_at a.book.ref_ptr b o a.m) table ∙ part-at b a.m inside a.book.ref_ptr in
    let both = body-some b a.book.ref_ptr a.m (require_macro a.m b) _ _ (require-in a.m b (checked-sound b _ e) inside) _ _ (c.part.ensures.part ∙ part) (c.part.ensures.place ∙ place) in
    record { part = both.0; offset = both.1.0; number = both.1.1 }
