-- What the functions over edges make of their parts.
use Prim.Native.Nat.{ℕ, ◌<◌}
use native.Mathlib.Omega.{arith}
use mathlib.Core.Path.{◌≡◌, refl, sym, ap, ◌∙◌}
use mathlib.Core.Bool.{Bool, true, false, cond, ◌&&◌, ◌||◌, and-true, and-false}
use lib.Bits.{bit_or}
use lib.Dec.{eqb}
use Rattle.stateset.specs.Set.{bit, word, common}
use Rattle.stateset.proofs.Sets.{word-ext, word_none, word-one, word-or}
use Rattle.stateset.proofs.Some.{any-witness}
use Rattle.lines.specs.Moving.{start_set}
use Rattle.spans.specs.declared.span.Span.{Span}
use Rattle.spans.specs.Joining.{is_empty, leads_into, trims_joined, joined_edges}

-- line-start alone, if b
start-if : (s : ℕ) (b : Bool) → (b ≡ true → 0 < s) → cond b 1 0 ≡ word s (λ q. eqb 0 q && b)
start-if s true h = word-one s 0 (h refl) ∙ word-ext s (λ q. eqb 0 q) (λ q. eqb 0 q && true) (λ q l. sym (and-true (eqb 0 q)))
start-if s false h = word_none s ∙ word-ext s (λ q. false) (λ q. eqb 0 q && false) (λ q l. sym (and-false (eqb 0 q)))

-- a set, if b
set_if : (s : ℕ) (b : Bool) (X : ℕ → Bool) → cond b (word s X) 0 ≡ word s (λ q. b && X q)
set_if s true X = refl
set_if s false X = word_none s

module _ (s y : ℕ) (a : Span) where
  pub into-ended : {z r : ℕ} {m : Bool} → a.ended ≡ true → m ≡ common s a.tail y → z ≡ start_set → r ≡ cond m z 0 → r ≡ word s (leads_into s y a.ended a)
  into-ended {m = n} e m z r =
      let some : common s a.tail y ≡ true → 0 < s = λ h. let k = any-witness s (λ p. bit a.tail p && bit y p) h in omega (arith, k.below) in
      r
      ∙ rw (z, m) (start-if s (common s a.tail y) some)
      ∙ ap (λ (x : Bool). word s (leads_into s y x a)) (sym e)

module _ (s : ℕ) (a b : Span) where
  pub trims-both : {m : Bool} {w k l r : ℕ} → b.ended ≡ false → m ≡ is_empty s b → w ≡ word s (bit a.edges.trimmed) → k ≡ cond m w 0
      → l ≡ word s (leads_into s b.edges.trimmed a.ended a) → r ≡ bit_or l k → r ≡ word s (trims_joined s b.ended a b)
  trims-both e m w k l r =
      r
      ∙ rw (l, k, w, m, set_if s (is_empty s b) (bit a.edges.trimmed))
      (word-or s (leads_into s b.edges.trimmed a.ended a) (λ q. is_empty s b && bit a.edges.trimmed q))
      ∙ ap (λ (x : Bool). word s (trims_joined s x a b)) (sym e)

  pub edges-made : {x : ℕ} {m n : Bool} → x ≡ word s (trims_joined s b.ended a b) → m ≡ is_empty s a → n ≡ is_empty s b
      → record { trimmed = x; leading = a.edges.leading || (m && b.edges.leading); trailing = b.edges.trailing || (n && a.edges.trailing) } ≡ joined_edges s a b
  unfolding joined_edges
  edges-made x m n = rw (x, m, n) refl
