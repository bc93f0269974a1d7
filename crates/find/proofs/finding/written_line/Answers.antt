-- `finding::written_line`: 17, or the keys at the front of the buffer.
use Rattle.find.proofs.KeysLaws.{line-short, line-fits, line-written}
use borrow.Author.Rules.{rules}
use Rattle.find.proofs.finding.written_line.Goals as goal

pub returns-then-buffer-line : goal.returns-then-buffer-line
returns-then-buffer-line c = search (line-short)

pub write_macro-requires : goal.write_macro-requires
write_macro-requires c = search (line-fits)

pub returns : goal.returns
returns c =
    line-written _ _ _ (search rules) c.if-buffer-line.false c.write_macro.ensures.written
