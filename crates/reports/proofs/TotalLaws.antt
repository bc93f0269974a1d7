-- Laws of totals.
use Prim.Native.Nat.{ℕ, suc, ◌+◌, ◌<◌, ◌≤◌}
use native.Mathlib.Omega.{arith}
use mathlib.Core.Path.{◌≡◌, refl, sym, ◌∙◌}
use mathlib.Core.Bool.{Bool, true, false, cond}
use lib.Dec.{leb}
use borrow.Author.Tests.{leb-false, le-leb, lt-leb}
use Rattle.std.specs.Prelude.{Option, Some, None}
use Rattle.reports.specs.Totals.{most, total_of, both_totals, line_if}

-- a number within the largest, and one beyond it
pub few-lines : (n : ℕ) → n ≤ most → total_of n ≡ Some n
few-lines n h = rw (le-leb n most h) refl

pub many-lines : (n : ℕ) → most < n → total_of n ≡ None
many-lines n h = rw (lt-leb n most h) refl

-- The total of a sum is the sum of the totals.
pub total-sum : (m n : ℕ) → both_totals (total_of m) (total_of n) ≡ total_of (m + n)
total-sum m n = go (leb m most) (leb n most) refl refl
  where
    told : Bool → ℕ → Option ℕ
    told b k = cond b (Some k) None

    over : (x : ℕ) → most < x → most < m + n → total_of x ≡ total_of (m + n)
    over x h g = many-lines x h ∙ sym (many-lines (m + n) g)

    go : (b c : Bool) → leb m most ≡ b → leb n most ≡ c → both_totals (told b m) (told c n) ≡ total_of (m + n)
    go true true e f = refl
    go true false e f = let h = leb-false n most f in over (m + suc most) (omega arith) (omega arith)
    go false true e f = let h = leb-false m most e in over (suc most + n) (omega arith) (omega arith)
    go false false e f = let h = leb-false m most e in over (suc most + suc most) (omega arith) (omega arith)

-- a line, or none
pub line-told : (b : Bool) → line_if b ≡ total_of (cond b 1 0)
line-told true = refl
line-told false = refl
