-- Laws of the macro that a command asks for.
use Prim.Native.Nat.{ℕ, ◌≤◌, min}
use mathlib.Core.Path.{◌≡◌, refl, sym, ap, subst, ◌∙◌}
use Rattle.std.proofs.lemmas.Option.{none-some, same_Some}
use mathlib.Core.List.{List}
use lib.ListN.{replicate}
use Rattle.letters.specs.declared.Case.{Case}
use Rattle.std.specs.Prelude.{Option, None, Some}
use Rattle.decimals.specs.Decimals.{decimal, number_in}
use Rattle.book.specs.Reading.{read_book, version_in}
use Rattle.pattern.specs.Reader as reader
use Rattle.counter.specs.Counting.{Outcome, count_result, most_words}
use Rattle.command.specs.Input.{Told, told, last_macro, last_result, macro_answer, last_answer}
use Rattle.command.specs.declared.asked.Asked.{Asked}
use Rattle.command.specs.Asked.{asked_number, AskedFor, named_answer, asked_answer}
use Rattle.decimals.proofs.NumberLaws.{number-value, number-none, number_small}
use Rattle.counter.proofs.Demands.{beyond-alike}

-- A number from 1,024 on is refused like 1,024: no book has such a macro.
pub asked-alike : (c : Case) (v : ℕ) (b : List ℕ) (p : reader.Read) (n : ℕ) (work : List ℕ) → count_result c v (read_book b) p (min n 1024) work ≡ count_result c v (read_book b) p n work
asked-alike c v b p n work = number_small (λ k. count_result c v (read_book b) p (min n 1024) work ≡ count_result c v (read_book b) p k work) (λ i j g h e. e ∙ beyond-alike c v b p i j work g h) n refl

-- What is told of the macro that a text names.
module _ (c : Case) (book pattern text : List ℕ) {a : Option ℕ} (e : a ≡ number_in text) where
  pub named-told : {t : Told} {m : ℕ} → a ≡ Some m → t ≡ macro_answer c book pattern m → Some t ≡ named_answer c book pattern text
  unfolding named_answer macro_answer
  named-told {t} {m} f g =
      let (is, number) = number-value text e f in
      rw is (ap Some (g ∙ rw number (ap (λ (o : Outcome). told o) (asked-alike c (version_in book) book (reader.read_pattern pattern) (decimal text) (replicate most_words 0)))))

  pub named_none : a ≡ None → None ≡ named_answer c book pattern text
  unfolding named_answer
  named_none f = rw (number-none text e f) refl

-- Of the macro that is asked for.
module _ (c : Case) (book pattern : List ℕ) where
  pub asked-told : (a : Asked) {o : Option ℕ} → o ≡ asked_number a book → {t : Told} {m : ℕ} → o ≡ Some m → t ≡ macro_answer c book pattern m → Some t ≡ asked_answer c book pattern a
  unfolding macro_answer last_answer last_result
  asked-told Asked.Last e {t} {m} f g = let last : m ≡ last_macro (read_book book) = same_Some m (last_macro (read_book book)) (sym f ∙ e) in rw last at (ap Some g)
  asked-told (Asked.Named text) e f g = named-told c book pattern text.now e f g

  pub asked_none : (a : Asked) {o : Option ℕ} → o ≡ asked_number a book → o ≡ None → (b p : List ℕ) → None ≡ asked_answer c b p a
  asked_none Asked.Last e f b p = absurd (none-some (last_macro (read_book book)) (sym f ∙ e))
  asked_none (Asked.Named text) e f b p = named_none c b p text.now e f

-- Any answer to the number of the macro that is asked for, where all numbers from 1,024 on have the same.
module _ {R : Type 0} (book b : List ℕ) (same : read_book book ≡ read_book b) (P : ℕ → R → Type 0) (N : Type 0) where
  pub asked-some : (a : Asked) {o : Option ℕ} → o ≡ asked_number a book → {m : ℕ} (r : R) → ((i j : ℕ) → 1024 ≤ i → 1024 ≤ j → P i r → P j r) → o ≡ Some m → P m r → AskedFor a b P N (Some r)
  asked-some Asked.Last e {m} r alike f p =
      let last : m ≡ last_macro (read_book b) = same_Some m (last_macro (read_book book)) (sym f ∙ e) ∙ ap last_macro same in
      subst (λ (k : ℕ). P k r) last p
  asked-some (Asked.Named text) e {m} r alike f p =
      let told = number-value text.now e f in
      (told.0, number_small (λ k. P k r) alike (decimal text.now) (subst (λ (k : ℕ). P k r) told.1 p))

  pub asked-nothing : (a : Asked) {o : Option ℕ} → o ≡ asked_number a book → o ≡ None → N → AskedFor a b P N None
  asked-nothing Asked.Last e f n = absurd (none-some (last_macro (read_book book)) (sym f ∙ e))
  asked-nothing (Asked.Named text) e f n = (number-none text.now e f, n)
