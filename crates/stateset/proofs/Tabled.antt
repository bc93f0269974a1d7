-- Lists that a rule gives entry by entry.
use Prim.Native.Nat.{ℕ, zero, suc, ◌+◌, ◌<◌, ◌≤◌}
use native.Mathlib.Omega.{arith}
use native.Mathlib.Nat.{not-suc-le-zero, add-zero, zero-add}
use mathlib.Core.Path.{◌≡◌, refl, ap}
use mathlib.Core.List.{◌∷◌}
use lib.ListN.{length, get_or}
use Rattle.stateset.specs.Tabled.{tabled}

-- the first entry and the others
pub tabled-next : (f : ℕ → ℕ) (n i : ℕ) → tabled f (suc n) i ≡ f i ∷ tabled f n (suc i)
unfolding tabled
tabled-next f n i = refl

pub tabled-length : (f : ℕ → ℕ) (n i : ℕ) → length (tabled f n i) ≡ n
unfolding tabled
tabled-length f zero i = refl
tabled-length f (suc n) i = ap suc (tabled-length f n (suc i))

tabled-from : (f : ℕ → ℕ) (n i k : ℕ) → k < n → get_or (tabled f n i) k 0 ≡ f (i + k)
unfolding tabled
tabled-from f zero i k h = absurd (not-suc-le-zero h)
tabled-from f (suc n) i zero h = rw add-zero
tabled-from f (suc n) i (suc k) h =
    let e : i + suc k ≡ suc i + k = omega arith in
    rw e (tabled-from f n (suc i) k (omega arith))

pub tabled-at : (f : ℕ → ℕ) (n k : ℕ) → k < n → get_or (tabled f n 0) k 0 ≡ f k
tabled-at f n k h = rw zero-add at (tabled-from f n 0 k h)

pub tabled-same : (F G : ℕ → ℕ) (n i : ℕ) → ((q : ℕ) → i ≤ q → q < i + n → F q ≡ G q) → tabled F n i ≡ tabled G n i
unfolding tabled
tabled-same F G zero i e = refl
tabled-same F G (suc n) i e = rw (e i (omega arith) (omega arith), tabled-same F G n (suc i) (λ q g h. e q (omega arith) (omega arith))) refl
