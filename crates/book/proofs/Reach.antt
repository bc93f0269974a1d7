-- Laws of what a macro reaches, and of books that are alike in it.
use Prim.Native.Nat.{ℕ, zero, suc, ◌≤◌}
use native.Mathlib.Omega.{arith}
use mathlib.Core.Path.{◌≡◌, refl, ap, ◌∙◌}
use mathlib.Core.Logic.{◌⊎◌, inl, inr, ⊎_elim}
use mathlib.Core.Bool.{true}
use mathlib.Core.List.{List, []}
use lib.ListN.{get_or}
use Rattle.book.specs.Format.{Macro, well_formed}
use Rattle.book.specs.Expansion.{expand, unrolled, expand_to, expansion}
use Rattle.book.specs.Reach.{Calls, Reaches, AlikeReached}
use Rattle.book.specs.Reach.Reaches.{itself, through}
use Rattle.book.proofs.Expansion.{expand-same, calls-lower}

module _ {ms : List Macro} where
  -- what a reached macro reaches is reached
  pub reach-trans : {m i j : ℕ} → Reaches ms m i → Reaches ms i j → Reaches ms m j
  reach-trans itself s = s
  reach-trans (through c r) s = through c (reach-trans r s)

  -- one call more at the end
  pub reach-calls : {m i j : ℕ} → Reaches ms m i → Calls ms i j → Reaches ms m j
  reach-calls r c = reach-trans r (through c itself)

  -- the last call
  pub reach-last : {m j : ℕ} → Reaches ms m j → (m ≡ j) ⊎ ((i : ℕ) × Reaches ms m i × Calls ms i j)
  reach-last itself = inl refl
  reach-last (through {m} {i} {j} c r) =
      ⊎_elim (λ e. inr (m, itself, rw (← e) c)) (λ t. inr (t.0, through c t.1, t.2)) (reach-last r)

-- what a macro reaches is itself or lower
pub reach-lower : (ms : List Macro) → well_formed ms ≡ true → {m j : ℕ} → Reaches ms m j → j ≤ m
reach-lower ms well itself = omega arith
reach-lower ms well (through c r) = omega (arith, calls-lower ms well c, reach-lower ms well r)

-- down to any depth, a macro runs the same in two books that are alike in each macro that it reaches
expand_to-alike : (ms ns : List Macro) (d m : ℕ) → AlikeReached ms ns m → expand_to d ms m ≡ expand_to d ns m
unfolding expand_to
expand_to-alike ms ns zero m e = refl
expand_to-alike ms ns (suc d) m e =
    expand-same (λ j. expand_to d ms j) (λ j. expand_to d ns j) (unrolled (get_or ms m [])) (λ j c. expand_to-alike ms ns d j (λ k r. e k (through c r)))
    ∙ ap (λ (is : Macro). expand (λ j. expand_to d ns j) (unrolled is)) (e m itself).same

-- so its whole run is the same
pub expansion-alike : (ms ns : List Macro) (m : ℕ) → AlikeReached ms ns m → expansion ms m ≡ expansion ns m
unfolding expansion
expansion-alike ms ns m e = expand_to-alike ms ns (suc m) m e
