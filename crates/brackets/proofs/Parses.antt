-- Laws of parsing: what a parse that went well says of its parts, and the front of the bytes.
use Prim.Native.Nat.{ℕ, ◌≤◌}
use native.Mathlib.Omega.{arith}
use mathlib.Core.Path.{◌≡◌, refl}
use mathlib.Core.Logic.{◌⊎◌, inl, inr}
use mathlib.Core.Bool.{Bool, true, false, cond}
use mathlib.Core.List.{List, [], ◌∷◌}
use lib.Dec.{eqb}
use lib.ListN.{drop}
use borrow.Author.Tests.{eqb-true}
use Rattle.brackets.specs.Brackets.{Parsed, Parser, parsed, fault, next, done, at}
use Rattle.runs.specs.Keys.{is_line}
use Rattle.runs.proofs.KeyLaws.{key-is, line_first}
use Rattle.runs.proofs.Tests.{clash, torn}

-- two answers that are equal have equal parts
pub same-parsed : {A : Type 0} {a b : A} {r s : List ℕ} → ◌≡◌ {A = Parsed A} (parsed a r) (parsed b s) → (a ≡ b) × (r ≡ s)
same-parsed e = (cc, cc)

-- an answer behind a test is the one or the other
pub one-parsed : {A : Type 0} (t : Bool) (g h : Parsed A) (a : A) (rest : List ℕ) → cond t g h ≡ parsed a rest → ((t ≡ true) × (g ≡ parsed a rest)) ⊎ ((t ≡ false) × (h ≡ parsed a rest))
one-parsed true g h a rest e = inl (refl, e)
one-parsed false g h a rest e = inr (refl, e)

-- what was parsed behind a test passed it
pub test-parsed : {A : Type 0} (t : Bool) (g : Parsed A) (a : A) (rest : List ℕ) → cond t g fault ≡ parsed a rest → (t ≡ true) × (g ≡ parsed a rest)
test-parsed true g a rest e = (refl, e)
test-parsed false g a rest e = clash (cc)

-- and it failed a test that is a fault
pub untest-parsed : {A : Type 0} (t : Bool) (g : Parsed A) (a : A) (rest : List ℕ) → cond t fault g ≡ parsed a rest → (t ≡ false) × (g ≡ parsed a rest)
untest-parsed true g a rest e = clash (cc)
untest-parsed false g a rest e = (refl, e)

-- one thing was parsed and then another
pub next-parsed : {A B : Type 0} (g : Parsed A) (f : A → Parser B) (b : B) (rest : List ℕ) → next g f ≡ parsed b rest → (a : A) × (mid : List ℕ) × (g ≡ parsed a mid) × (f a mid ≡ parsed b rest)
next-parsed (parsed a mid) f b rest e = (a, mid, refl, e)
next-parsed fault f b rest e = clash (cc)

-- one thing was parsed and then made into another
pub made-parsed : {A B : Type 0} (g : Parsed A) (f : A → B) (b : B) (rest : List ℕ) → next g (λ a. done (f a)) ≡ parsed b rest → (a : A) × (b ≡ f a) × (g ≡ parsed a rest)
made-parsed (parsed a mid) f b rest e = (a, cc, cc)
made-parsed fault f b rest e = clash (cc)

-- an element was parsed and then others
module _ {A : Type 0} (g : Parsed A) (h : Parser (List A)) (l : List A) (rest : List ℕ) where
  pub record Several : Type 0 where
    pub first : A
    pub others : List A
    pub mid : List ℕ
    pub same : l ≡ first ∷ others
    pub one : g ≡ parsed first mid
    pub more : h mid ≡ parsed others rest

  pub more-parsed : next g (λ a b. next (h b) (λ xs. done (a ∷ xs))) ≡ parsed l rest → Several
  more-parsed e =
      let (a, mid, one, f) = next-parsed g (λ a b. next (h b) (λ xs. done (a ∷ xs))) l rest e in
      let (xs, same, others) = made-parsed (h mid) (λ xs. a ∷ xs) l rest f in
      record { first = a; others = xs; mid = mid; same = same; one = one; more = others }

-- a byte that is there begins the bytes
pub front : (l : List ℕ) (c : ℕ) → 1 ≤ c → eqb (at 0 l) c ≡ true → l ≡ c ∷ drop 1 l
front [] c h e = absurd (omega (arith, eqb-true 0 c e))
front (x ∷ l) c h e = rw (eqb-true x c e)

-- among the bytes of a pattern a 0 at the front is the end
pub clean_end : (l : List ℕ) → is_line l ≡ true → eqb (at 0 l) 0 ≡ true → l ≡ []
clean_end [] h e = refl
clean_end (b ∷ l) h e = torn (eqb b 0) e (key-is b (line_first b l h)).2
