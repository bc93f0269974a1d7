-- A first part of an input is enough: what is answered to the part that was read is answered to the whole.
use Prim.Native.Nat.{ℕ, ◌<◌, ◌≤◌, min}
use native.Mathlib.Omega.{arith}
use mathlib.Core.Path.{◌≡◌, refl, sym, ap, ◌∙◌}
use mathlib.Core.Bool.{Bool, true, false}
use mathlib.Core.List.{List}
use Rattle.std.specs.Prelude.{Option, Some, option_map}
use lib.Dec.{leb}
use lib.ListN.{length, take, length-take, replicate}
use lib.Seq.{take_all, length-take-le}
use borrow.Author.Tests.{leb-true, leb-false}
use Rattle.letters.specs.declared.Case.{Case}
use Rattle.book.proofs.Prefix.{version-prefix, book-prefix}
use Rattle.book.specs.Reading.{read_book}
use Rattle.pattern.specs.Reader.{read_pattern}
use Rattle.pattern.proofs.Accepts.{pattern-prefix}
use Rattle.std.specs.Prelude.{Result}
use Rattle.refusal.specs.declared.Refusal.{Refusal}
use Rattle.counter.specs.declared.counting.Count.{Count}
use Rattle.counter.specs.Answers.{outcome}
use Rattle.counter.specs.Counting.{book_result, most_words}
use Rattle.command.specs.declared.asked.Asked.{Asked}
use Rattle.command.specs.Buffers.{ReadFrom}
use Rattle.command.specs.Input.{told_by, last_result, program_result, program_answer, macro_answer, last_answer}
use Rattle.decimals.specs.Decimals.{decimal}
use Rattle.command.specs.Asked.{asked_number, named_answer, asked_answer}
use Rattle.std.proofs.lemmas.Option.{same_Some}
use Rattle.command.specs.Reads.{ProgramAnswers, CountsAsked}
use Rattle.command.proofs.InputLaws.{answer-long, program-told, macro-told}
use Rattle.command.proofs.AskedLaws.{asked-told}

-- What was read of an input: itself, where that has fewer bytes than are read, and a first part of it where as many were read.
module _ (n : ℕ) (part w : List ℕ) (e : ReadFrom n part w) where
  pub read-less : length part < n → part ≡ w
  read-less h =
      let all : take n part ≡ part = take_all n part (omega arith) in
      let long : min n (length w) ≡ length part = sym (length-take n w) ∙ sym (ap length e) ∙ ap length all in
      sym all ∙ e ∙ take_all n w (omega arith)

  pub read-full : length part ≡ n → part ≡ take n w
  read-full h = sym (take_all n part (omega arith)) ∙ e

-- each part is read from itself
pub read-itself : (n : ℕ) (part : List ℕ) → ReadFrom n part part
read-itself n part = refl

-- what the first n bytes determine is the same of the part
pub read-alike : {A : Type 0} (f : List ℕ → A) (n : ℕ) → ((w : List ℕ) → f (take n w) ≡ f w) → (part w : List ℕ) → ReadFrom n part w → f part ≡ f w
read-alike f n prefix part w e = sym (prefix part) ∙ ap f e ∙ prefix w

pub book-read : (part b : List ℕ) → ReadFrom 264200 part b → read_book part ≡ read_book b
book-read = read-alike read_book 264200 (λ b. book-prefix 264200 b (omega arith))

pub pattern-read : (part p : List ℕ) → ReadFrom 129 part p → read_pattern part ≡ read_pattern p
pattern-read = read-alike read_pattern 129 (λ p. pattern-prefix 129 p (omega arith))

-- `cuecount`'s input: 14 wherever it has over 8,192 bytes, and so wherever its first 8,193 have
pub input-prefix : (n : ℕ) (w work : List ℕ) → 8193 ≤ n → program_result (take n w) work ≡ program_result w work
input-prefix n w work h = go (leb (length w) n) refl
  where
    go : (b : Bool) → leb (length w) n ≡ b → program_result (take n w) work ≡ program_result w work
    go true e = ap (λ (v : List ℕ). program_result v work) (take_all n w (leb-true (length w) n e))
    go false e =
        let long : n < length w = leb-false (length w) n e in
        let short : length (take n w) ≡ n = length-take-le n w (omega arith) in
        sym (answer-long (take n w) work (omega arith)) ∙ answer-long w work (omega arith)

-- the count of a macro and of the last one: the book's first 264,200 bytes and the pattern's first 129
module _ (c : Case) (b p : List ℕ) where
  pub last-prefix : last_answer c (take 264200 b) (take 129 p) ≡ last_answer c b p
  unfolding last_answer last_result
  last-prefix = rw (version-prefix 264200 b (omega arith), book-prefix 264200 b (omega arith), pattern-prefix 129 p (omega arith)) refl

  pub macro-prefix : (m : ℕ) → macro_answer c (take 264200 b) (take 129 p) m ≡ macro_answer c b p m
  unfolding macro_answer
  macro-prefix m = rw (version-prefix 264200 b (omega arith), book-prefix 264200 b (omega arith), pattern-prefix 129 p (omega arith)) refl

  pub named-prefix : (text : List ℕ) → named_answer c (take 264200 b) (take 129 p) text ≡ named_answer c b p text
  unfolding named_answer
  named-prefix text = rw (macro-prefix (decimal text)) refl

  pub asked-prefix : (a : Asked) → asked_answer c (take 264200 b) (take 129 p) a ≡ asked_answer c b p a
  asked-prefix Asked.Last = ap Some last-prefix
  asked-prefix (Asked.Named text) = named-prefix text.now

-- what the functions answer
pub answers-read : (input after : List ℕ) (r : Result Count Refusal) → outcome r after ≡ program_result input (replicate 4096 0) → (w : List ℕ) → ReadFrom 8193 input w → told_by r ≡ program_answer w
unfolding program_answer
answers-read input after r e w read = program-told r after input e ∙ read-alike program_answer 8193 (λ v. rw (input-prefix 8193 v (replicate 4096 0) (omega arith)) refl) input w read

module _ (book pattern : List ℕ) (c : Case) (a : Asked) {o : Option ℕ} (e : o ≡ asked_number a book) where
  pub counts-read : {m : ℕ} (after : List ℕ) (r : Result Count Refusal) → o ≡ Some m → outcome r after ≡ book_result c book pattern m (replicate most_words 0) → (b p : List ℕ) → ReadFrom 264200 book b → ReadFrom 129 pattern p → option_map told_by (Some r) ≡ asked_answer c b p a
  counts-read {m} after r f g b p h k = asked-told c book pattern a e f (macro-told r after c book pattern m g) ∙ sym (asked-prefix c book pattern a) ∙ rw (h, k) (asked-prefix c b p a)

-- what they promise, for those who go on from it
pub program-answers : (n : ℕ) (input : List ℕ) (r : Result Count Refusal) → ProgramAnswers n input r → (w : List ℕ) → ReadFrom n input w → told_by r ≡ program_answer w
unfolding ProgramAnswers
program-answers n input r a = a

pub counts-answers : (most few : ℕ) (book pattern : List ℕ) (c : Case) (a : Asked) (r : Option (Result Count Refusal)) → CountsAsked most few book pattern c a r → (b p : List ℕ) → ReadFrom most book b → ReadFrom few pattern p → option_map told_by r ≡ asked_answer c b p a
unfolding CountsAsked
counts-answers most few book pattern c a r h = h

-- the same of the last macro, and of the one that a text names
pub last-answers : (most few : ℕ) (book pattern : List ℕ) (c : Case) (r : Result Count Refusal) → CountsAsked most few book pattern c Asked.Last (Some r) → (b p : List ℕ) → ReadFrom most book b → ReadFrom few pattern p → told_by r ≡ last_answer c b p
last-answers most few book pattern c r h b p f g = same_Some (told_by r) (last_answer c b p) (counts-answers most few book pattern c Asked.Last (Some r) h b p f g)
