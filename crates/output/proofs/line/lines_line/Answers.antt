-- `line::lines_line`: two names with their numbers, and LF.
use native.Mathlib.Omega.{arith}
use mathlib.Core.Path.{ap}
use lib.ListN.{length}
use borrow.Author.Rules.{rules}
use Rattle.decimals.proofs.DraftLaws.{puts-near, puts-wide}
use Rattle.output.proofs.LineLaws.{lines-put}
use Rattle.output.proofs.line.lines_line.Goals as goal

pub put_field-requires-2 : goal.put_field-requires-2
put_field-requires-2 c = let f = c.put_field.ensures in omega (arith, puts-near f.text, puts-wide f.text, f.short, c.new-line.ensures.empty, ap length c.new-line.ensures.buffer)

pub returns : goal.returns
returns c =
    let f = c.put_field.ensures in
    let g = c.put_field-2.ensures in
    lines-put _ _ _ (search rules) f.short g.short c.new-line.ensures.buffer c.new-line.ensures.empty f.text g.text c.put.ensures (search rules) c.length.ensures
