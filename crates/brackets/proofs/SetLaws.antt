-- Laws of the sets of atoms by either choice of case.
use Prim.Native.Nat.{ℕ}
use mathlib.Core.Path.{◌≡◌, refl, sym, ◌∙◌}
use mathlib.Core.Bool.{Bool, true, false, ◌&&◌, xor, and-true, not-not}
use mathlib.Core.List.{List}
use lib.Dec.{eqb}
use Rattle.runs.specs.Keys.{line_key}
use Rattle.runs.proofs.Tests.{and_both, and-fst, and-snd}
use Rattle.letters.specs.declared.Case.{Case}
use Rattle.letters.specs.Letters.{SameLetter, folded}
use Rattle.letters.proofs.Laws.{folded-sensitive, folded_more, folded-other, letter-test, other}
use Rattle.brackets.specs.Form.{Element, Atom, plain, dot, escaped, bracket}
use Rattle.brackets.specs.Sets.{in_elements, named, negated, set_of}

-- what no `^` turns round stays as it is
not-turned : (x : Bool) → xor false x ≡ x
unfolding xor
not-turned x = not-not x

-- "Without the choice all answers are those of document 01": a set is then what it says there.
module _ (k : ℕ) where
  -- what is named is in the set, turned round by a `^`
  exact : (a : Atom) → set_of Case.Sensitive a k ≡ line_key k && xor (negated a) (named a k)
  unfolding set_of
  exact a = rw (folded-sensitive (named a) k) refl

  pub plain-set : (b : ℕ) → set_of Case.Sensitive (plain b) k ≡ line_key k && eqb k b
  unfolding named
  plain-set b = exact (plain b) ∙ rw (not-turned (eqb k b)) refl

  pub dot-set : set_of Case.Sensitive dot k ≡ line_key k
  unfolding named xor
  dot-set = exact dot ∙ and-true (line_key k)

  pub escaped-set : (b : ℕ) → set_of Case.Sensitive (escaped b) k ≡ line_key k && eqb k b
  unfolding set_of named
  escaped-set b = plain-set b

  pub bracket-set : (n : Bool) (es : List Element) → set_of Case.Sensitive (bracket n es) k ≡ line_key k && xor n (in_elements k es)
  unfolding named
  bracket-set n es = exact (bracket n es)

-- with case ignored a set has both letters or neither
pub letter-set : (a : Atom) (j k : ℕ) → SameLetter j k → set_of Case.Ignored a k ≡ set_of Case.Ignored a j
unfolding set_of
letter-set a =
    letter-test (set_of Case.Ignored a) (λ k. rw ((other k).key, folded-other (named a) k) refl)

-- and what is in a set that no `^` turned round stays in it
pub more-set : (c : Case) (a : Atom) (k : ℕ) → negated a ≡ false → set_of Case.Sensitive a k ≡ true → set_of c a k ≡ true
unfolding set_of
more-set c a k n h =
    let f : line_key k && folded Case.Sensitive (named a) k ≡ true = rw (n, not-turned (folded Case.Sensitive (named a) k)) at h in
    rw (n, not-turned (folded c (named a) k)) (and_both (line_key k) (folded c (named a) k) (and-fst (line_key k) (folded Case.Sensitive (named a) k) f) (folded_more c (named a) k (sym (folded-sensitive (named a) k) ∙ and-snd (line_key k) (folded Case.Sensitive (named a) k) f)))
