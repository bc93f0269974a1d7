-- `finding::placed_line`: what is refused before leaves the work words; then the count leaves the reports, the extents come behind them, and
-- there is no line, or it is where it is found.
use mathlib.Core.Path.{refl, sym, ap, ◌∙◌}
use mathlib.Core.Bool.{not}
use borrow.Author.Rules.{rules}
use Rattle.std.specs.Prelude.{Ok}
use Rattle.std.proofs.lemmas.Result.{err_from_is_err_and}
use Rattle.find.proofs.SoundLaws.{accepted, pattern-refused, width_fits, words-fit, space-refused, placeable, next_fits, base-fits}
use Rattle.find.proofs.FindLaws.{words-room, words-fit-in, macro-none, macro-some}
use Rattle.find.proofs.finding.placed_line.Goals as goal

pub returns-in_err-tables : goal.returns-in_err-tables
returns-in_err-tables c =
    let p = err_from_is_err_and c.from_residual.result c.from_residual.ensures.1 in
    let a = c.args in
    rw (p.1, p.2) (pattern-refused c.requires a.pattern.now c.in_err-tables.ensures.figures refl a.case a.m a.k a.work.now)

pub overflow_add-width : goal.overflow_add-width
overflow_add-width c = width_fits c.requires c.args.case c.args.pattern.now c.in_ok-tables.ensures.tables refl

pub overflow_add-width-2 : goal.overflow_add-width-2
overflow_add-width-2 c = words-fit c.requires c.args.case c.args.pattern.now c.in_ok-tables.ensures.tables refl

pub returns-in_err-space_for : goal.returns-in_err-space_for
returns-in_err-space_for c =
    let p = err_from_is_err_and c.from_residual-in_err-space_for.result c.from_residual-in_err-space_for.ensures.1 in
    let a = c.args in
    rw (p.1, p.2) (space-refused c.requires a.case a.pattern.now c.in_ok-tables.ensures.tables refl a.m a.work.now _ c.in_err-space_for.ensures refl a.k)

pub overflow_add-base : goal.overflow_add-base
overflow_add-base c =
    let a = c.args in
    let x = placeable c.requires a.case a.pattern.now c.in_ok-tables.ensures.tables refl a.m a.work.now (Ok tt) c.in_ok-space_for.ensures refl in
    next_fits x

pub overflow_mul-base : goal.overflow_mul-base
overflow_mul-base c =
    let a = c.args in
    let x = placeable c.requires a.case a.pattern.now c.in_ok-tables.ensures.tables refl a.m a.work.now (Ok tt) c.in_ok-space_for.ensures refl in
    base-fits x

pub split_at_mut-reports-requires : goal.split_at_mut-reports-requires
split_at_mut-reports-requires c =
    let a = c.args in
    let x = placeable c.requires a.case a.pattern.now c.in_ok-tables.ensures.tables refl a.m a.work.now (Ok tt) c.in_ok-space_for.ensures refl in
    words-room x _ (search rules)

pub fill_extents-requires : goal.fill_extents-requires
fill_extents-requires c =
    let a = c.args in
    let x = placeable c.requires a.case a.pattern.now c.in_ok-tables.ensures.tables refl a.m a.work.now (Ok tt) c.in_ok-space_for.ensures refl in
    words-fit-in x _ (search rules) c.split_at_mut-reports.ensures.front c.split_at_mut-reports.ensures.back

pub returns-then-not-has_line : goal.returns-then-not-has_line
returns-then-not-has_line c =
    let a = c.args in
    let x = placeable c.requires a.case a.pattern.now c.in_ok-tables.ensures.tables refl a.m a.work.now (Ok tt) c.in_ok-space_for.ensures refl in
    macro-none x _ (search rules) c.split_at_mut-reports.ensures.front c.split_at_mut-reports.ensures.back c.fill_extents.ensures _ c.count_book-count.ensures c.ranges.k c.has_line.ensures (ap not c.if-not-has_line.true)

pub invariant_of-search : goal.invariant_of-search
invariant_of-search c = record { few = (accepted c.requires c.args.case c.args.pattern.now c.in_ok-tables.ensures.tables refl).small }

pub locate-requires : goal.locate-requires
locate-requires c =
    let a = c.args in
    let x = placeable c.requires a.case a.pattern.now c.in_ok-tables.ensures.tables refl a.m a.work.now (Ok tt) c.in_ok-space_for.ensures refl in
    record { table = x.table; inside = x.inside }

pub returns-in_err-line : goal.returns-in_err-line
returns-in_err-line c =
    let p = err_from_is_err_and c.from_residual-in_err-line.result c.from_residual-in_err-line.ensures.1 in
    let a = c.args in
    let x = placeable c.requires a.case a.pattern.now c.in_ok-tables.ensures.tables refl a.m a.work.now (Ok tt) c.in_ok-space_for.ensures refl in
    rw (p.1, p.2) (macro-some x _ (search rules) c.split_at_mut-reports.ensures.front c.split_at_mut-reports.ensures.back c.fill_extents.ensures _ c.count_book-count.ensures c.ranges.k c.has_line.ensures _ refl refl refl refl refl (ap not c.if-not-has_line.false) c.locate.ensures (sym c.in_err-line.was ∙ c.numbered.ensures))

pub returns : goal.returns
returns c =
    let a = c.args in
    let x = placeable c.requires a.case a.pattern.now c.in_ok-tables.ensures.tables refl a.m a.work.now (Ok tt) c.in_ok-space_for.ensures refl in
    macro-some x _ (search rules) c.split_at_mut-reports.ensures.front c.split_at_mut-reports.ensures.back c.fill_extents.ensures _ c.count_book-count.ensures c.ranges.k c.has_line.ensures _ refl refl refl refl refl (ap not c.if-not-has_line.false) c.locate.ensures (sym c.in_ok-line.was ∙ c.numbered.ensures)
