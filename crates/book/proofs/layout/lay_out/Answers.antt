-- `lay_out`: the header, then the macros.
use Rattle.std.proofs.lemmas.Result.{err_from_is_err_and}
use Rattle.book.proofs.Laid.{header-fits, header-refused, macros-refused, macros-sound, macros-laid}
use Rattle.book.proofs.layout.lay_out.Goals as goal

pub returns-in_err-macros : goal.returns-in_err-macros
returns-in_err-macros c =
    let p = err_from_is_err_and c.from_residual.result c.from_residual.ensures.1 in
    record { figures = rw (p.1, p.2) (header-refused c.args.s.now _ c.read_header.ensures c.in_err-macros.was); table = rw (p.1) tt }

pub layout_macros-requires : goal.layout_macros-requires
layout_macros-requires c = (header-fits c.args.s.now _ c.read_header.ensures _ c.in_ok-macros.was, c.requires)

pub returns-in_err-layout_macros : goal.returns-in_err-layout_macros
returns-in_err-layout_macros c =
    let p = err_from_is_err_and c.from_residual-in_err-layout_macros.result c.from_residual-in_err-layout_macros.ensures.1 in
    record {
      figures = rw (p.1, p.2) (macros-refused c.args.s.now _ c.read_header.ensures _ c.in_ok-macros.was _ _ c.layout_macros.ensures c.in_err-layout_macros.was);
      table = rw (p.1) tt;
    }

pub returns : goal.returns
returns c =
    record {
      figures = macros-sound c.args.s.now _ c.read_header.ensures _ c.in_ok-macros.was _ _ c.layout_macros.ensures c.in_ok-layout_macros.was;
      table = macros-laid c.args.s.now _ c.read_header.ensures _ c.in_ok-macros.was _ _ c.layout_macros.ensures c.in_ok-layout_macros.was;
    }
