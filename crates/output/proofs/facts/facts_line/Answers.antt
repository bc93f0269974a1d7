-- `facts::facts_line`: four names with their numbers, and LF.
use native.Mathlib.Omega.{arith}
use mathlib.Core.Path.{ap}
use lib.ListN.{length}
use borrow.Author.Rules.{rules}
use Rattle.decimals.proofs.DraftLaws.{puts-near, puts-wide}
use Rattle.output.proofs.LineLaws.{facts-put}
use Rattle.output.proofs.facts.facts_line.Goals as goal

pub put_field-requires-2 : goal.put_field-requires-2
put_field-requires-2 c = let f = c.put_field.ensures in omega (arith, puts-near f.text, puts-wide f.text, f.short, c.new-line.ensures.empty, ap length c.new-line.ensures.buffer)

pub put_field-requires-3 : goal.put_field-requires-3
put_field-requires-3 c =
    let f = c.put_field.ensures in
    let g = c.put_field-2.ensures in
    omega (arith, puts-near f.text, puts-wide f.text, f.short, puts-near g.text, puts-wide g.text, g.short, c.new-line.ensures.empty, ap length c.new-line.ensures.buffer)

pub put_field-requires-4 : goal.put_field-requires-4
put_field-requires-4 c =
    let f = c.put_field.ensures in
    let g = c.put_field-2.ensures in
    let h = c.put_field-3.ensures in
    omega (arith, puts-near f.text, puts-wide f.text, f.short, puts-near g.text, puts-wide g.text, g.short, puts-near h.text, puts-wide h.text, h.short, c.new-line.ensures.empty, ap length c.new-line.ensures.buffer)

pub returns : goal.returns
returns c = search (facts-put, rules)
