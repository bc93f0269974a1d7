-- `input::answer`: what is answered to the part that was read is answered to the whole.
use borrow.Author.Rules.{rules}
use Rattle.command.specs.Reads.{ProgramAnswers}
use Rattle.command.proofs.ReadLaws.{answers-read}
use Rattle.command.proofs.input.answer.Goals as goal

pub returns : goal.returns
unfolding ProgramAnswers
returns c w read = search (answers-read, rules)
