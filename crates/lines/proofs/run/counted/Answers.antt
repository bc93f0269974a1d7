-- `run::counted`: what is counted and what is left make the whole count.
use Rattle.lines.proofs.Tallying.{run-start, run_on, run-refused, run-done}
use Rattle.lines.proofs.run.counted.Goals as goal

pub loop-key-init : goal.loop-key-init
loop-key-init c = rw c.behind-tally.ensures run-start

pub returns-then-key-eq0 : goal.returns-then-key-eq0
returns-then-key-eq0 c = search (run-refused)

pub loop-key-preserved : goal.loop-key-preserved
loop-key-preserved c = let byte = c.type_inv.run c.loop-key.key-index in search (run_on, byte.fits)

pub returns : goal.returns
returns c = search (run-done)
