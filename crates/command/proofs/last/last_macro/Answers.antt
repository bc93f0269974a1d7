-- `last_macro`: the check gives the macro count, and a sound book has a macro.
use Rattle.command.proofs.InputLaws.{some-macro, last-sound, last-refused}
use borrow.Author.Rules.{rules}
use Rattle.command.proofs.last.last_macro.Goals as goal

pub overflow_sub-result : goal.overflow_sub-result
overflow_sub-result c = search (some-macro, rules)

pub returns-in-Ok : goal.returns-in-Ok
returns-in-Ok c = search (last-sound)

pub returns-in-Err : goal.returns-in-Err
returns-in-Err c = search (last-refused)
