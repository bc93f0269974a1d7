-- `Cursor::pattern_branch`: the optional `^`.
use Rattle.pattern.proofs.Anchors as laws
use Rattle.pattern.proofs.cursor.Cursor.pattern_branch.Goals as goal

pub returns-then-byte-eq94 : goal.returns-then-byte-eq94
returns-then-byte-eq94 c = search (laws.branch-start)

pub returns : goal.returns
returns c = search (laws.branch-free)
