-- What the count over a book answers.
use Rattle.std.specs.Prelude.{ℕ, List, Result, Ok, Err}
use Rattle.refusal.specs.declared.Refusal.{Refusal}
use Rattle.counter.specs.declared.counting.Count.{Count}
use Rattle.counter.specs.Counting.{Outcome, finished, stopped}

-- the count over a book: what is answered, and the work words afterwards
abbrev pub outcome : Result Count Refusal → List ℕ → Outcome
outcome (Ok a) work = finished a.lines a.steps work
outcome (Err r) work = stopped r work
