-- `text::Draft::put_number`: the digits that `io::decimal` writes are the numeral.
use native.Mathlib.Omega.{arith}
use Rattle.decimals.proofs.NumeralLaws.{numeral-short}
use Rattle.decimals.proofs.DraftLaws.{puts-digits}
use Rattle.decimals.proofs.text.Draft.put_number.Goals as goal

pub returns : goal.returns
returns c = record { text = search (puts-digits); short = numeral-short 20 c.args.n (omega arith) (omega arith) }
