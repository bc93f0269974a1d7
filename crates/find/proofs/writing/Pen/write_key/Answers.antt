-- `Pen::write_key`: a key is written, or skipped, or the pen is done.
use Rattle.find.proofs.WriteLaws as laws
use Rattle.find.proofs.writing.Pen.write_key.Goals as goal

pub returns-then-self-eq0 : goal.returns-then-self-eq0
returns-then-self-eq0 c = record { behind = search (laws.done-behind); written = search (laws.done-written) }

pub returns-then-self-eq0-2 : goal.returns-then-self-eq0-2
returns-then-self-eq0-2 c = record { behind = search (laws.key-written); written = search (laws.key-written-buffer) }

pub returns-then-key-eq10 : goal.returns-then-key-eq10
returns-then-key-eq10 c = record { behind = search (laws.key-end); written = search (laws.key-skipped-buffer) }

pub returns : goal.returns
returns c = record { behind = search (laws.key-skipped); written = search (laws.key-skipped-buffer) }
