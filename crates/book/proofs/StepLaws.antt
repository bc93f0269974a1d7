-- The steps that come before any work on a book, for whoever takes them: what each refuses or hands on, by what its function answers.
use Prim.Native.Nat.{ℕ, suc, ◌*◌, ◌/◌, ◌<◌, ◌≤◌}
use native.Mathlib.Omega.{arith}
use native.Mathlib.Nat.{div-lt_iff_lt-mul, le-div_iff_mul-le}
use mathlib.Core.Path.{◌≡◌, refl, sym, ap, ◌∙◌}
use mathlib.Core.Bool.{Bool, true, false, cond}
use mathlib.Core.List.{List}
use lib.Dec.{ltb}
use borrow.Author.Tests.{lt-ltb, le-ltb, ltb-true, ltb-false}
use Rattle.runs.proofs.Tests.{clash}
use Rattle.refusal.specs.declared.Refusal.{Refusal}
use Rattle.refusal.specs.declared.Refusal.TheVariants.{NoSuchMacro, InsufficientSpace}
use Rattle.book.specs.Reading.{read_book}
use Rattle.std.specs.Prelude.{Result, Ok, Err}
use Rattle.book.specs.Answer.{check_result, offsets_in, opened_figures}
use Rattle.book.specs.declared.layout.Book.{Book}
use Rattle.book.specs.Steps.{refused, settled, ◌>>=◌, answer_by, book_step, space_by, space_step, InBook, settled_by}
use Rattle.book.proofs.LayoutLaws.{opened-refused, opened-sound, opened-count}

-- The book, by what `open` answers.
module _ (b : List ℕ) where
  pub book-refuses : {r : Refusal} → opened_figures (Err r) ≡ check_result (read_book b) → book_step (read_book b) ≡ refused r
  book-refuses e = ap book_step (opened-refused b e)

  pub book-in : {o : List ℕ} (k : Book) → opened_figures (Ok k) ≡ check_result (read_book b) → o ≡ offsets_in b → InBook b o k.macros
  book-in k e f = record { table = f; many = opened-count b k e; sound = ap book_step (opened-sound b k e) }

-- The macro and the words, by their numbers.
module _ (macros m need words : ℕ) where
  pub no-macro : macros ≤ m → refused NoSuchMacro ≡ space_step macros m need words
  unfolding space_step
  no-macro h = rw (le-ltb m macros h) refl

  module _ (inside : m < macros) where
    space-short : words < need → refused InsufficientSpace ≡ space_step macros m need words
    unfolding space_step
    space-short h = rw (lt-ltb m macros inside, lt-ltb words need h) refl

    space-enough : need ≤ words → settled tt ≡ space_step macros m need words
    unfolding space_step
    space-enough h = rw (lt-ltb m macros inside, le-ltb words need h) refl

-- by a quotient
module _ (macros m width words : ℕ) (inside : m < macros) where
  pub none_needed : width ≡ 0 → settled tt ≡ space_step macros m (suc m * width) words
  none_needed e = space-enough macros m (suc m * width) words inside (rw e (omega arith))

  module _ (some : width ≡ 0 → ⊥) where
    positive : 0 < width
    positive = omega (arith, some)

    pub quotient-short : words / width ≤ m → refused InsufficientSpace ≡ space_step macros m (suc m * width) words
    quotient-short h = let low : words / width < suc m = omega arith in space-short macros m (suc m * width) words inside ((div-lt_iff_lt-mul positive).0 low)

    pub quotient-enough : m < words / width → settled tt ≡ space_step macros m (suc m * width) words
    quotient-enough h = space-enough macros m (suc m * width) words inside ((le-div_iff_mul-le positive).0 h)

-- and by what `space_for` answers
module _ (macros m need words : ℕ) (x : Result (Unit {0}) Refusal) (e : settled_by x ≡ space_step macros m need words) where
  pub space-refuses : {r : Refusal} → x ≡ Err r → space_step macros m need words ≡ refused r
  space-refuses f = sym e ∙ ap settled_by f

  module _ (f : x ≡ Ok tt) where
    pub space-settles : space_step macros m need words ≡ settled tt
    space-settles = sym e ∙ ap settled_by f

    fits : (m < macros) × (need ≤ words)
    unfolding space_step
    fits = go (ltb m macros) (ltb words need) refl refl space-settles
      where
        go : (a b : Bool) → ltb m macros ≡ a → ltb words need ≡ b → space_by a b ≡ settled tt → (m < macros) × (need ≤ words)
        go true true g h k = clash (cc)
        go true false g h k = (ltb-true m macros g, ltb-false words need h)
        go false b g h k = clash (cc)

    pub space-inside : m < macros
    space-inside = fits.0

    pub space-room : need ≤ words
    space-room = fits.1

-- What is answered where the macro and the words come last, by the two tests.
pub space-answer : {A B : Type 0} (f : Refusal → B) (g : A → B) (a : A) (macros m need words : ℕ) →
    answer_by f g (◌>>=◌ (space_step macros m need words) (λ x. settled a)) ≡ cond (ltb m macros) (cond (ltb words need) (f InsufficientSpace) (g a)) (f NoSuchMacro)
unfolding space_step
space-answer f g a macros m need words = go (ltb m macros) (ltb words need)
  where
    go : (x y : Bool) → answer_by f g (◌>>=◌ (space_by x y) (λ z. settled a)) ≡ cond x (cond y (f InsufficientSpace) (g a)) (f NoSuchMacro)
    go true true = refl
    go true false = refl
    go false y = refl
