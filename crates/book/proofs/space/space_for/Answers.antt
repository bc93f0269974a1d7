-- `space::space_for`: the quotient says the same as the product.
use Prim.Native.Nat.{suc, ◌*◌}
use native.Mathlib.Omega.{arith}
use Rattle.book.proofs.StepLaws.{no-macro, none_needed, quotient-short, quotient-enough}
use Rattle.book.proofs.space.space_for.Goals as goal

pub returns-then-macros-m : goal.returns-then-macros-m
returns-then-macros-m c = let a = c.args in no-macro a.macros a.m (suc a.m * a.width) a.words (omega arith)

pub returns-then-width-eq0 : goal.returns-then-width-eq0
returns-then-width-eq0 c = let a = c.args in none_needed a.macros a.m a.width a.words (omega arith) (omega arith)

pub returns-then-words-width : goal.returns-then-words-width
returns-then-words-width c = let a = c.args in quotient-short a.macros a.m a.width a.words (omega arith) c.if-width-eq0.false (omega arith)

pub returns : goal.returns
returns c = let a = c.args in quotient-enough a.macros a.m a.width a.words (omega arith) c.if-width-eq0.false (omega arith)
