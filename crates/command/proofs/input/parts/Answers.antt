-- `input::parts`: by the place of the first LF.
use borrow.Author.Rules.{rules}
use Rattle.command.proofs.InputLaws.{pattern-before, book-behind, pattern-whole, book-nothing}
use Rattle.command.proofs.input.parts.Goals as goal

pub returns-in-Some-clause-pattern : goal.returns-in-Some-clause-pattern
returns-in-Some-clause-pattern c = search (pattern-before, rules)

pub returns-in-Some-clause-book : goal.returns-in-Some-clause-book
returns-in-Some-clause-book c = search (book-behind, rules)

pub returns-in-None-clause-pattern : goal.returns-in-None-clause-pattern
returns-in-None-clause-pattern c = search (pattern-whole, rules)

pub returns-in-None-clause-book : goal.returns-in-None-clause-book
returns-in-None-clause-book c = search (book-nothing, rules)
