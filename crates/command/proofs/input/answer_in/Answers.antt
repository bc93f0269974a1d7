-- `input::answer_in`: what stands before the first LF is the pattern, what stands behind it the book.
use borrow.Author.Rules.{rules}
use Rattle.command.proofs.InputLaws.{answer-long, answer-book}
use Rattle.command.proofs.input.answer_in.Goals as goal

pub returns-then-input-gt-LONGEST : goal.returns-then-input-gt-LONGEST
returns-then-input-gt-LONGEST c = search (answer-long)

pub returns : goal.returns
returns c = search (answer-book, rules)
