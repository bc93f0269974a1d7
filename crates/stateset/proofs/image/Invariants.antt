-- `stateset::image`: what is gathered and the image of what is left make the set's image. The measure is what is left.
use Prim.Native.Nat.{◌^◌, ◌<◌}
use mathlib.Core.Path.{◌≡◌}
use lib.Bits.{bit_or}
use Rattle.stateset.specs.Set.{image_of}
use Rattle.stateset.proofs.image.Given as goal

abbrev pub invariant-loop-y : goal.invariant-loop-y
invariant-loop-y l = (l.y < 2 ^ 32) × (bit_or l.acc (image_of l.rows l.y) ≡ image_of l.rows l.set)

abbrev pub decreases-loop-y : goal.decreases-loop-y
decreases-loop-y l = l.y
