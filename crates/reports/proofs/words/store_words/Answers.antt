-- `store_words`: the rows, then the words behind them.
use native.Mathlib.Omega.{arith}
use Rattle.reports.proofs.WordLaws.{stored-all}
use Rattle.reports.proofs.words.store_words.Goals as goal

pub returns : goal.returns
returns c = stored-all c.args.work.now c.args.at c.args.r c.requires (omega arith) (omega arith) c.copy_from_slice.ensures.len c.copy_from_slice.ensures.after c.copy_from_slice-2.ensures.after
