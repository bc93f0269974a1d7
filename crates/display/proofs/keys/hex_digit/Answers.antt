-- `keys::hex_digit`: by a test.
use Rattle.display.proofs.ShownLaws.{hex-low, hex-high}
use Rattle.display.proofs.keys.hex_digit.Goals as goal

pub returns-then-d-lt10 : goal.returns-then-d-lt10
returns-then-d-lt10 c = search (hex-low)

pub returns-else-d-lt10 : goal.returns-else-d-lt10
returns-else-d-lt10 c = search (hex-high)
