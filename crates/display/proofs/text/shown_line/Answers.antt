-- `text::shown_line`.
use Rattle.display.proofs.TextLaws.{keys-room, shown-put}
use borrow.Author.Rules.{rules}
use lib.ListN.{length-take}
use Rattle.display.proofs.text.shown_line.Goals as goal

pub put_keys-requires : goal.put_keys-requires
put_keys-requires c = simp length-take (search (keys-room, rules))

pub returns : goal.returns
returns c = search (shown-put, rules)
