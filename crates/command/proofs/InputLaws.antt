-- Laws of the program's input.
use Prim.Native.Nat.{ℕ, suc, ◌+◌, ◌-◌, ◌<◌, ◌≤◌}
use native.Mathlib.Omega.{arith}
use native.Mathlib.Numerals.{add-one}
use mathlib.Core.Path.{◌≡◌, refl, sym, ap, ◌∙◌}
use mathlib.Core.Bool.{Bool, true, false, cond}
use mathlib.Core.List.{List, []}
use lib.Dec.{eqb, ltb}
use lib.ListN.{length, take, drop, replicate, drop_of_length-le, length-drop}
use lib.Seq.{take_all}
use borrow.Author.Tests.{lt-ltb, le-ltb, ltb-false}
use Rattle.letters.specs.declared.Case.{Case}
use Rattle.refusal.specs.declared.Refusal.{Refusal}
use Rattle.refusal.specs.Figures.{Figures}
use Rattle.refusal.proofs.Number.{number-positive}
use Rattle.book.specs.Format.{Macro}
use Rattle.book.specs.Reading.{Reading, got, refused, read_book}
use Rattle.book.specs.Answer.{checked_figures, check_result}
use Rattle.std.specs.Prelude.{Result, Ok, Err}
use Rattle.book.proofs.LayoutLaws.{whole-book}
use Rattle.counter.specs.Counting.{Outcome, stopped, book_result, most_words}
use Rattle.counter.specs.Answers.{outcome}
use Rattle.std.specs.Prelude.{Result, Ok, Err}
use Rattle.refusal.specs.declared.Refusal.{Refusal}
use Rattle.counter.specs.declared.counting.Count.{Count}
use Rattle.refusal.specs.declared.Refusal.TheVariants.{InputTooLong}
use Rattle.command.specs.Input.{pattern_end, pattern_in, book_in, last_macro, last_result, program_result, told, told_by, program_answer, macro_answer, last_answer}
use Rattle.runs.specs.Keys.{line_end}
use Rattle.std.specs.List.{position_or_len, position}
use Rattle.std.specs.Prelude.{Option, None, Some}
use Rattle.std.proofs.lemmas.Option.{none-some, cond_some}
use Rattle.std.proofs.lemmas.List.Recursion.{is_position_or_len}

-- The last macro.
module _ (b : List ℕ) {r : Result ℕ Refusal} (e : checked_figures r ≡ check_result (read_book b)) where
  last_of : {n : ℕ} → r ≡ Ok n → (1 ≤ n) × (n - 1 ≡ last_macro (read_book b))
  last_of {n} f = go (read_book b) refl (rw f at e)
    where
      go : (g : Reading (List Macro)) → read_book b ≡ g → checked_figures (Ok n) ≡ check_result g → (1 ≤ n) × (n - 1 ≡ last_macro g)
      go (got ms rest) d h =
          let same : n ≡ length ms = ap (λ (x : Figures ℕ). x.value) h in
          (omega (arith, (whole-book b ms rest d).some), rw same refl)
      go (refused q) d h = absurd (omega (arith, number-positive q, ap (λ (x : Figures ℕ). x.refusal) h))

  pub some-macro : {n : ℕ} → r ≡ Ok n → 1 ≤ n
  some-macro f = (last_of f).0

  pub last-sound : {n : ℕ} → r ≡ Ok n → n - 1 ≡ last_macro (read_book b)
  last-sound f = (last_of f).1

  pub last-refused : {q : Refusal} → r ≡ Err q → 0 ≡ last_macro (read_book b)
  last-refused {q} f = go (read_book b) (rw f at e)
    where
      go : (g : Reading (List Macro)) → checked_figures (Err q) ≡ check_result g → 0 ≡ last_macro g
      go (got ms rest) h = absurd (omega (arith, number-positive q, ap (λ (x : Figures ℕ). x.refusal) h))
      go (refused s) h = refl

-- The pattern ends at the first LF, the book begins behind it.
first-end : (w : List ℕ) → pattern_end w ≡ position_or_len (λ c. eqb c line_end) w
unfolding pattern_end
first-end = is_position_or_len pattern_end (λ c. eqb c line_end) refl (λ c w. ap (λ (n : ℕ). cond (eqb c line_end) 0 n) (one_more (pattern_end w)))
  where
    one_more : (n : ℕ) → suc n ≡ 1 + n
    one_more n = omega arith

module _ (w : List ℕ) {o : Option ℕ} (e : o ≡ position (λ c. eqb c line_end) w) where
  at : ℕ
  at = position_or_len (λ c. eqb c line_end) w

  ended : {end : ℕ} → o ≡ Some end → pattern_end w ≡ end
  unfolding at
  ended {end} f = first-end w ∙ (cond_some (ltb at (length w)) at end (sym e ∙ f)).1

  not-ended : o ≡ None → length w ≤ pattern_end w
  unfolding at
  not-ended f = rw (first-end w) (go (ltb at (length w)) refl (sym e ∙ f))
    where
      go : (b : Bool) → ltb at (length w) ≡ b → cond b (Some at) None ≡ None → length w ≤ at
      go true g h = absurd (none-some at (sym h))
      go false g h = ltb-false at (length w) g

  module _ {end : ℕ} (f : o ≡ Some end) where
    pub pattern-before : take end w ≡ pattern_in w
    pattern-before = ap (λ (n : ℕ). take n w) (sym (ended f))

    pub book-behind : take (length w - (end + 1)) (drop (end + 1) w) ≡ book_in w
    book-behind = take_all (length w - (end + 1)) (drop (end + 1) w) (rw length-drop (omega arith)) ∙ ap (λ (n : ℕ). drop n w) (add-one end ∙ ap suc (sym (ended f)))

  module _ (f : o ≡ None) where
    pub pattern-whole : w ≡ pattern_in w
    pattern-whole = sym (take_all (pattern_end w) w (not-ended f))

    pub book-nothing : [] ≡ book_in w
    book-nothing = let h : length w ≤ suc (pattern_end w) = omega (arith, not-ended f) in sym (drop_of_length-le w h)

-- The whole.
pub last-counted : (c : Case) (book pattern before : List ℕ) {m : ℕ} {o : Outcome} → m ≡ last_macro (read_book book) → o ≡ book_result c book pattern m before → o ≡ last_result c book pattern before
unfolding last_result
last-counted c book pattern before e k = k ∙ ap (λ (n : ℕ). book_result c book pattern n before) e

pub answer-long : (w work : List ℕ) → 8192 < length w → stopped InputTooLong work ≡ program_result w work
unfolding program_result
answer-long w work h = rw (lt-ltb 8192 (length w) h) refl

pub answer-book : (w before after : List ℕ) (r : Result Count Refusal) → length w ≤ 8192 → outcome r after ≡ last_result Case.Sensitive (book_in w) (pattern_in w) before → outcome r after ≡ program_result w before
unfolding program_result
answer-book w before after r h k = rw (le-ltb 8192 (length w) h) k

-- What is told does not rest on the work words afterwards.
module _ (r : Result Count Refusal) (after : List ℕ) where
  told_of_lem : {o : Outcome} → outcome r after ≡ o → told_by r ≡ told o
  told_of_lem e = go r ∙ ap (λ (x : Outcome). told x) e
    where
      go : (s : Result Count Refusal) → told_by s ≡ told (outcome s after)
      go (Ok a) = refl
      go (Err q) = refl

  pub program-told : (w : List ℕ) → outcome r after ≡ program_result w (replicate 4096 0) → told_by r ≡ program_answer w
  unfolding program_answer
  program-told w e = told_of_lem e

  pub macro-told : (c : Case) (book pattern : List ℕ) (m : ℕ) → outcome r after ≡ book_result c book pattern m (replicate most_words 0) → told_by r ≡ macro_answer c book pattern m
  unfolding macro_answer
  macro-told c book pattern m e = told_of_lem e

  pub last-told : (c : Case) (book pattern : List ℕ) → outcome r after ≡ last_result c book pattern (replicate most_words 0) → told_by r ≡ last_answer c book pattern
  unfolding last_answer
  last-told c book pattern e = told_of_lem e
