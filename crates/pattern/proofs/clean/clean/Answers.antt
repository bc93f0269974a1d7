-- `clean`: the test of each byte is that of a line's key.
use Rattle.std.proofs.Common.{rules, tests, ◌∙◌}
use Rattle.std.proofs.lemmas.Iterator.{YieldsList-from_slice}
use Rattle.std.proofs.lemmas.Iterator.Search.{all_from_yields_List}
use Rattle.pattern.proofs.Scans.{tested, line-tests}
use Rattle.pattern.proofs.clean.clean.Goals as goal

pub returns : goal.returns
returns c =
    all_from_yields_List tested _ _ c.all.result c.all.ensures.ran (YieldsList-from_slice c.args.s.now cc) (λ x b q k. search (rules, tests))
    ∙ line-tests c.args.s.now c.type_inv.s
