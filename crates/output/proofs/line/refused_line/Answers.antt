-- `line::refused_line`: a name with its number, and LF.
use borrow.Author.Rules.{rules}
use Rattle.output.proofs.LineLaws.{refused-put}
use Rattle.output.proofs.line.refused_line.Goals as goal

pub returns : goal.returns
returns c =
    let n = c.put_number.ensures in
    refused-put _ _ _ c.code.ensures n.short c.new-line.ensures.buffer c.new-line.ensures.empty c.put.ensures n.text c.put-2.ensures (search rules) c.length.ensures
