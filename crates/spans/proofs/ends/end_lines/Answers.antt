-- `ends::end_lines`: the first line and the last, or the one that is both.
use mathlib.Core.Path.{◌≡◌}
use native.Mathlib.Omega.{arith}
use Rattle.spans.specs.Joining.{end_lines}
use Rattle.spans.proofs.Made.{ends-both, ends-one}
use Rattle.spans.proofs.ends.end_lines.Goals as goal

pub returns-then-a : goal.returns-then-a
returns-then-a c = search (ends-both)

-- what is counted is the line; what is answered is so many
pub returns : goal.returns
returns c = let one : c.from-2.result ≡ end_lines c.args.p c.args.a = search (ends-one) in omega (arith, one)
