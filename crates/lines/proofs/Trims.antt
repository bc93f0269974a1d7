-- Laws of the keys less a final CR.
use Prim.Native.Nat.{ℕ, suc, ◌-◌}
use native.Mathlib.Omega.{arith}
use mathlib.Core.Path.{◌≡◌, refl, sym, ap, ◌∙◌}
use mathlib.Core.Bool.{Bool, true, false, not, cond, ◌&&◌, ◌||◌, or-false}
use mathlib.Core.List.{List, [], ◌∷◌, ◌++◌, append-nil}
use lib.Dec.{eqb}
use lib.ListN.{length, take}
use Rattle.runs.specs.Keys.{member, is_line}
use Rattle.runs.proofs.KeyLaws.{line-cons, line_first, line-rest, line-none, member-first, member-rest}
use Rattle.runs.proofs.Tests.{clash}
use Rattle.lines.specs.Lines.{carriage_return, is_open, trimmed, ends_in_return}

pub trim-none : trimmed [] ≡ []
unfolding trimmed
trim-none = refl

pub ends-none : ends_in_return [] ≡ false
unfolding ends_in_return
ends-none = refl

-- keys with one more behind them have a key
pub open-append : (u v : List ℕ) → is_open v ≡ true → is_open (u ++ v) ≡ true
open-append [] v h = h
open-append (c ∷ u) v h = refl

pub open_more : (w : List ℕ) (c : ℕ) → is_open (w ++ (c ∷ [])) ≡ true
open_more w c = open-append w (c ∷ []) refl

-- a key before others stays
trim-cons : (c : ℕ) (w : List ℕ) → is_open w ≡ true → trimmed (c ∷ w) ≡ c ∷ trimmed w
unfolding trimmed
trim-cons c [] h = clash (cc)
trim-cons c (d ∷ w) h = refl

pub ends-cons : (c : ℕ) (w : List ℕ) → is_open w ≡ true → ends_in_return (c ∷ w) ≡ ends_in_return w
unfolding ends_in_return
ends-cons c [] h = clash (cc)
ends-cons c (d ∷ w) h = refl

-- where keys follow others, they decide
pub trim-append : (u v : List ℕ) → is_open v ≡ true → trimmed (u ++ v) ≡ u ++ trimmed v
trim-append [] v h = refl
trim-append (c ∷ u) v h = trim-cons c (u ++ v) (open-append u v h) ∙ ap (λ (l : List ℕ). c ∷ l) (trim-append u v h)

pub ends-append : (u v : List ℕ) → is_open v ≡ true → ends_in_return (u ++ v) ≡ ends_in_return v
ends-append [] v h = refl
ends-append (c ∷ u) v h = ends-cons c (u ++ v) (open-append u v h) ∙ ends-append u v h

pub ends_join : (u v : List ℕ) → ends_in_return (u ++ v) ≡ (ends_in_return v || (not (is_open v) && ends_in_return u))
unfolding ends_in_return
ends_join u [] = ap ends_in_return (append-nil u)
ends_join u (c ∷ v) = ends-append u (c ∷ v) refl ∙ sym (or-false (ends_in_return (c ∷ v)))

-- "A CR directly before an LF becomes part of the line end": it is one, and another key is not
pub trim-return : (w : List ℕ) → trimmed (w ++ (carriage_return ∷ [])) ≡ w
unfolding trimmed
trim-return [] = refl
trim-return (c ∷ w) = trim-cons c (w ++ (carriage_return ∷ [])) (open_more w carriage_return) ∙ ap (λ (l : List ℕ). c ∷ l) (trim-return w)

pub trim-kept : (w : List ℕ) → ends_in_return w ≡ false → trimmed w ≡ w
unfolding trimmed ends_in_return
trim-kept [] h = refl
trim-kept (c ∷ []) h = rw h refl
trim-kept (c ∷ d ∷ w) h = ap (λ (l : List ℕ). c ∷ l) (trim-kept (d ∷ w) h)

pub ends_more : (w : List ℕ) (c : ℕ) → ends_in_return (w ++ (c ∷ [])) ≡ eqb carriage_return c
unfolding ends_in_return
ends_more w c = ends-append w (c ∷ []) refl

pub trim-other : (w : List ℕ) (c : ℕ) → eqb carriage_return c ≡ false → trimmed (w ++ (c ∷ [])) ≡ w ++ (c ∷ [])
trim-other w c h = trim-kept (w ++ (c ∷ [])) (ends_more w c ∙ h)

-- how many keys are left
pub trim-length : (w : List ℕ) → length (trimmed w) ≡ length w - cond (ends_in_return w) 1 0
unfolding trimmed ends_in_return
trim-length [] = refl
trim-length (c ∷ []) = go (eqb carriage_return c)
  where
    go : (b : Bool) → length (cond b [] (c ∷ [])) ≡ length (c ∷ []) - cond b 1 0
    go true = refl
    go false = refl
trim-length (c ∷ d ∷ w) = go (ends_in_return (d ∷ w)) (trim-length (d ∷ w))
  where
    go : (b : Bool) → length (trimmed (d ∷ w)) ≡ length (d ∷ w) - cond b 1 0 → suc (length (trimmed (d ∷ w))) ≡ length (c ∷ d ∷ w) - cond b 1 0
    go true e = omega (arith, e)
    go false e = omega (arith, e)

-- they stand in front
pub trim-front : (w : List ℕ) → take (length (trimmed w)) w ≡ trimmed w
unfolding trimmed
trim-front [] = refl
trim-front (c ∷ []) = go (eqb carriage_return c)
  where
    go : (b : Bool) → take (length (cond b [] (c ∷ []))) (c ∷ []) ≡ cond b [] (c ∷ [])
    go true = refl
    go false = refl
trim-front (c ∷ d ∷ w) = ap (λ (l : List ℕ). c ∷ l) (trim-front (d ∷ w))

-- without any CR nothing is dropped
pub ends-without : (w : List ℕ) → member carriage_return w ≡ false → ends_in_return w ≡ false
unfolding ends_in_return
ends-without [] h = refl
ends-without (c ∷ []) h = member-first carriage_return c [] h
ends-without (c ∷ d ∷ w) h = ends-without (d ∷ w) (member-rest carriage_return c (d ∷ w) h)

-- what is left of a line is one
pub trim-line : (w : List ℕ) → is_line w ≡ true → is_line (trimmed w) ≡ true
unfolding trimmed
trim-line [] h = line-none
trim-line (c ∷ []) h = go (eqb carriage_return c)
  where
    go : (b : Bool) → is_line (cond b [] (c ∷ [])) ≡ true
    go true = line-none
    go false = h
trim-line (c ∷ d ∷ w) h = line-cons c (trimmed (d ∷ w)) (line_first c (d ∷ w) h) (trim-line (d ∷ w) (line-rest c (d ∷ w) h))
