-- Laws of readings: what a reading that was got says of its parts.
use Prim.Native.Nat.{ℕ}
use mathlib.Core.Path.{◌≡◌, refl}
use mathlib.Core.Bool.{Bool, true, false, cond}
use mathlib.Core.List.{List, ◌∷◌}
use Rattle.refusal.specs.declared.Refusal.{Refusal}
use Rattle.book.specs.Reading.{Reading, Reader, got, refused, next, done}
use Rattle.runs.proofs.Tests.{clash}

-- what was read behind a test passed it
pub test-got : {A : Type 0} (t : Bool) (g : Reading A) (r : Refusal) (a : A) (rest : List ℕ) → cond t g (refused r) ≡ got a rest → (t ≡ true) × (g ≡ got a rest)
test-got true g r a rest e = (refl, e)
test-got false g r a rest e = clash (cc)

-- and it failed a test that refuses
pub untest-got : {A : Type 0} (t : Bool) (g : Reading A) (r : Refusal) (a : A) (rest : List ℕ) → cond t (refused r) g ≡ got a rest → (t ≡ false) × (g ≡ got a rest)
untest-got true g r a rest e = clash (cc)
untest-got false g r a rest e = (refl, e)

-- two answers that are equal have equal parts
pub same-got : {A : Type 0} {a b : A} {r s : List ℕ} → ◌≡◌ {A = Reading A} (got a r) (got b s) → (a ≡ b) × (r ≡ s)
same-got e = (cc, cc)

-- one thing was read and then another
module _ {A B : Type 0} (g : Reading A) (f : A → Reader B) (b : B) (rest : List ℕ) where
  pub next-got : next g f ≡ got b rest → (a : A) × (mid : List ℕ) × (g ≡ got a mid) × (f a mid ≡ got b rest)
  next-got e = go g e
    where
      go : (x : Reading A) → next x f ≡ got b rest → (a : A) × (mid : List ℕ) × (x ≡ got a mid) × (f a mid ≡ got b rest)
      go (got a mid) h = (a, mid, refl, h)
      go (refused r) h = clash (cc)

-- an element was read and then others
module _ {A : Type 0} (g : Reading A) (h : Reader (List A)) (l : List A) (rest : List ℕ) where
  pub more-got : next g (λ a b. next (h b) (λ xs. done (a ∷ xs))) ≡ got l rest → (a : A) × (xs : List A) × (mid : List ℕ) × (l ≡ a ∷ xs) × (g ≡ got a mid) × (h mid ≡ got xs rest)
  more-got e =
      let (a, mid, one, f) = next-got g (λ a b. next (h b) (λ xs. done (a ∷ xs))) l rest e in
      let (xs, r, others, q) = next-got (h mid) (λ xs. done (a ∷ xs)) l rest f in
      (a, xs, mid, cc, one, cc)
