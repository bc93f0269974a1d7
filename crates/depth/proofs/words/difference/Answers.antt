-- `words::difference`: two's complement of a - b.
use Rattle.depth.proofs.UnmatchedLaws.{word-wraps}
use Rattle.depth.proofs.words.difference.Goals as goal

pub returns : goal.returns
returns c = word-wraps c.args.a c.args.b c.ranges.a.fits c.ranges.b.fits
