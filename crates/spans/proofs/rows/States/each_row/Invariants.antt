-- `States::each_row`: the rows of the first q states are made.
use Prim.Native.Nat.{ℕ, ◌<◌}
use mathlib.Core.Path.{◌≡◌}
use mathlib.Core.Bool.{Bool}
use Rattle.stateset.specs.Set.{word}
use Rattle.spans.proofs.RowLaws.{Building}
use Rattle.spans.proofs.rows.States.each_row.Given as goal

abbrev pub invariant-loop-q : goal.invariant-loop-q
invariant-loop-q g l =
    (X : ℕ → ℕ → Bool)
    → ((q x : ℕ) → q < l.fn.self.count → goal.F-post g l.row q x → x ≡ word l.fn.self.count (X q))
    → Building l.fn.self.count X l.rows l.q
