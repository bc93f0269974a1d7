-- `line::tested`: the states are those that the keys so far lead to from line-start, and all of these are keys of a line.
use native.Mathlib.Omega.{arith}
use Rattle.lines.proofs.Testing.{line-start, line_on, line_refused, line-whole}
use Rattle.lines.proofs.line.tested.Goals as goal

pub loop-key-init : goal.loop-key-init
loop-key-init c = search (line-start)

pub returns-then-key-eq0 : goal.returns-then-key-eq0
returns-then-key-eq0 c = line_refused c.loop-key.invariant c.loop-key-test.true (grind arith)

pub loop-key-preserved : goal.loop-key-preserved
loop-key-preserved c = let byte = c.type_inv.line c.loop-key.key-index in search (line_on, byte.fits)

pub returns : goal.returns
returns c = search (line-whole)
