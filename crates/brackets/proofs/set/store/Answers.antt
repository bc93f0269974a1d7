-- `store`. Invariant: the words of the keys below k are as the set says.
use Rattle.brackets.proofs.Adding.{keys-first, keys_in_lem, keys-out, keys-last}
use Rattle.brackets.proofs.set.store.Goals as goal
use Rattle.brackets.proofs.set.store.Goals.{then-has_key, else-has_key}

pub loop-k-init : goal.loop-k-init
loop-k-init c = search keys-first

pub loop-k-preserved : goal.loop-k-preserved
loop-k-preserved c = elim c.if-has_key.branch [ then-has_key w ↦ keys_in_lem _ _ _ _ _ _ _ c.loop-k.invariant _ c.has_key.ensures _ w.keys-is w.if-has_key.true | else-has_key w ↦ keys-out _ _ _ _ _ _ _ c.loop-k.invariant _ c.has_key.ensures _ w.keys-is w.if-has_key.false ]

pub returns : goal.returns
returns c = search keys-last
