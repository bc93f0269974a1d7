-- `read_header`: each way out is a case of reading the header.
use native.Mathlib.Omega.{arith}
use mathlib.Core.Path.{ap}
use mathlib.Core.Bool.{not}
use Rattle.book.proofs.Header.{header-magic, header-long, header-version, header-count, header-good}
use Rattle.book.proofs.layout.read_header.Goals as goal

pub returns-then-not-has_magic : goal.returns-then-not-has_magic
returns-then-not-has_magic c = search header-magic

pub le16_at-requires : goal.le16_at-requires
le16_at-requires c =
    omega (arith, header-long c.args.s.now _ c.has_magic.ensures (ap not c.if-not-has_magic.false))

pub returns-then-not-is_taken : goal.returns-then-not-is_taken
returns-then-not-is_taken c = search header-version

pub le16_at-count-requires : goal.le16_at-count-requires
le16_at-count-requires c =
    omega (arith, header-long c.args.s.now _ c.has_magic.ensures (ap not c.if-not-has_magic.false))

pub returns-then-not-count : goal.returns-then-not-count
returns-then-not-count c = search header-count

pub returns : goal.returns
returns c = search header-good
