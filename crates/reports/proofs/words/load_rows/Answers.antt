-- `load_rows`: the words, and zeros behind them.
use Rattle.reports.proofs.WordLaws.{rows-read}
use Rattle.reports.proofs.words.load_rows.Goals as goal

pub returns : goal.returns
returns c = rows-read c.args.work.now c.args.at c.args.s c.copy_from_slice.ensures.after
