-- `shape::link`: behind the atoms of one set those of another may be entered.
use Rattle.pattern.proofs.Linking.{linked-none, linked-more, linked-all}
use Rattle.pattern.proofs.shape.link.Goals as goal

pub loop-word-init : goal.loop-word-init
loop-word-init c = search linked-none

pub loop-word-preserved : goal.loop-word-preserved
loop-word-preserved c = search linked-more

pub returns : goal.returns
returns c = search linked-all
