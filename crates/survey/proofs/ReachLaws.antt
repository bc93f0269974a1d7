-- Laws of the reach list of the macro that a command asks for.
use Prim.Native.Nat.{ℕ}
use mathlib.Core.Path.{◌≡◌}
use mathlib.Core.Logic.{◌⊎◌}
use mathlib.Core.List.{List}
use lib.ListN.{length}
use Rattle.book.specs.Reading.{read_book}
use Rattle.std.specs.Prelude.{Result}
use Rattle.refusal.specs.declared.Refusal.{Refusal}
use Rattle.refusal.specs.Figures.{Figures}
use Rattle.command.specs.Reads.{BookFrom}
use Rattle.reach.specs.Answer.{reached_figures}
use Rattle.book.proofs.Refusals.{BookNumber}
use Rattle.reach.proofs.AnswerLaws.{entries-alike, reached-beyond, reached-refusals}
use Rattle.std.specs.Prelude.{Option, None, Some}
use Rattle.decimals.specs.Decimals.{decimal}
use Rattle.command.specs.declared.asked.Asked.{Asked}
use Rattle.command.specs.Asked.{asked_number}
use Rattle.command.proofs.AskedLaws.{asked-some, asked-nothing}
use Rattle.command.specs.Input.{last_macro}
use Rattle.command.proofs.ReadLaws.{read-itself, book-read}
use Rattle.std.proofs.Common.{Bor}
use Rattle.survey.specs.Reached.{ReachedIn, ReachesAsked}

-- in every book of which this was read
module _ (book : List ℕ) (a : Asked) {o : Option ℕ} (e : o ≡ asked_number a book) (before after : List ℕ) where
  pub reach-read : {m : ℕ} (r : Result ℕ Refusal) → o ≡ Some m → ReachedIn book m (reached_figures r) before after → ReachesAsked book a (Some r) before after
  unfolding ReachesAsked
  reach-read {m} r f w b read =
      let same : read_book book ≡ read_book b = book-read book b read in
      asked-some book b same (λ m r. ReachedIn b m (reached_figures r) before after) (after ≡ before) a e r (λ i j. reached-beyond b before after i j (reached_figures r)) f (rw (entries-alike m (length before) book b same) at w)

  pub reach_none : o ≡ None → after ≡ before → ReachesAsked book a None before after
  unfolding ReachesAsked
  reach_none f same b read = asked-nothing book b (book-read book b read) (λ m r. ReachedIn b m (reached_figures r) before after) (after ≡ before) a e f same

-- What the command is refused for: 1 to 6, 20, and 10. With 1,024 entries 11 is never answered.
module _ (book before after : List ℕ) (long : length before ≡ 1024) where
  pub reach-last-refusals : (f : Figures ℕ) → ((b : List ℕ) → BookFrom book b → ReachedIn b (last_macro (read_book b)) f before after) → BookNumber f.refusal ⊎ (f.refusal ≡ 10)
  reach-last-refusals f w = reached-refusals book before after (last_macro (read_book book)) f long (w book (read-itself 264200 book))

  -- as it is promised of the last macro
  pub reach-last-asked : (r : Result ℕ Refusal) → ReachesAsked book Asked.Last (Some r) before after → BookNumber (reached_figures r).refusal ⊎ ((reached_figures r).refusal ≡ 10)
  unfolding ReachesAsked
  reach-last-asked r w = reach-last-refusals (reached_figures r) w

  pub reach-named-refusals : (text : Bor (List ℕ)) (r : Result ℕ Refusal) → ReachesAsked book (Asked.Named text) (Some r) before after → BookNumber (reached_figures r).refusal ⊎ ((reached_figures r).refusal ≡ 10)
  unfolding ReachesAsked
  reach-named-refusals text r w = reached-refusals book before after (decimal text.now) (reached_figures r) long (w book (read-itself 264200 book)).1
