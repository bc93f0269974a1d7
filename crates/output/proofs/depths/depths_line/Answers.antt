-- `depths::depths_line`: two names with their numbers, and LF.
use native.Mathlib.Omega.{arith}
use mathlib.Core.Path.{ap}
use lib.ListN.{length}
use borrow.Author.Rules.{rules}
use Rattle.decimals.proofs.DraftLaws.{puts-near, puts-wide}
use Rattle.output.proofs.WholeLaws.{depths-put}
use Rattle.output.proofs.depths.depths_line.Goals as goal

pub put_whole-requires-2 : goal.put_whole-requires-2
put_whole-requires-2 c = let f = c.put_whole.ensures in omega (arith, puts-near f.text, puts-wide f.text, f.short, c.new-line.ensures.empty, ap length c.new-line.ensures.buffer)

pub returns : goal.returns
returns c = search (depths-put, rules)
