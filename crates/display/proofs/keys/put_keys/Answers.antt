-- `keys::put_keys`: the first keys are shown.
use borrow.Author.Rules.{rules}
use Rattle.display.proofs.ShownLaws.{showing-none, showing-more, showing-all}
use Rattle.display.proofs.keys.put_keys.Goals as goal

pub loop-key-init : goal.loop-key-init
loop-key-init c = search (showing-none, rules)

pub loop-key-preserved : goal.loop-key-preserved
loop-key-preserved c = search (showing-more, rules)

pub returns : goal.returns
returns c = search (showing-all, rules)
