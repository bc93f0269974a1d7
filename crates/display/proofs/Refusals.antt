-- What the command is refused for where it asks for a line: 1 to 10, 15, 16 and 20 of the table. It has words for every book (11), and of
-- a line that its buffer is too short for it tells the number and the length (17).
use Prim.Native.Nat.{ℕ, ◌≤◌}
use native.Mathlib.Omega.{arith}
use mathlib.Core.Path.{◌≡◌, sym, subst}
use mathlib.Core.Logic.{◌⊎◌, inl, inr, ⊎_elim}
use mathlib.Core.List.{List}
use lib.ListN.{replicate, length-replicate}
use Rattle.refusal.specs.declared.Refusal.{Refusal}
use Rattle.refusal.specs.Number.{number}
use Rattle.book.specs.Reading.{read_book}
use Rattle.letters.specs.declared.Case.{Case}
use Rattle.decimals.specs.Decimals.{decimal}
use Rattle.find.specs.Answer as finding
use Rattle.find.proofs.Refusals.{FindRefusal, find-refusals-most}
use Rattle.command.specs.Input.{last_macro}
use Rattle.command.proofs.ReadLaws.{read-itself}
use Rattle.command.specs.declared.asked.Asked.{Asked}
use Rattle.std.specs.Prelude.{Some, Err}
use Rattle.std.proofs.Common.{Bor}
use Rattle.display.specs.Asked.{refused, line_answer, LinesAsked}
use Rattle.display.proofs.AskedLaws.{answer-seen}

abbrev pub LineRefusal : ℕ → Type 0
LineRefusal r = (r ≤ 10) ⊎ ((r ≡ 15) ⊎ ((r ≡ 16) ⊎ (r ≡ 20)))

-- all that `find_line` is refused for with so many words, but for 17
pub line-refusals : (c : Case) (b p : List ℕ) (m k r : ℕ) → line_answer c b p m k ≡ refused r → LineRefusal r
line-refusals c b p m k r e =
    let words : List ℕ = replicate finding.most_words 0 in
    let line : List ℕ = replicate 65536 0 in
    let known = find-refusals-most c b p m k words line (omega (arith, length-replicate {A = ℕ} finding.most_words 0)) in
    let seen = rw e at (answer-seen c b p m k line (length-replicate {A = ℕ} 65536 0) words words (length-replicate {A = ℕ} finding.most_words 0) (length-replicate {A = ℕ} finding.most_words 0)) in
    go seen.2 (subst (FindRefusal 10) seen.0 known)
  where
    go : (r ≡ 17 → ⊥) → FindRefusal 10 r → LineRefusal r
    go n = ⊎_elim inl (⊎_elim (λ h. inr (inl h)) (⊎_elim (λ h. inr (inr (inl h))) (⊎_elim (λ h. absurd (n h)) (λ h. inr (inr (inr h))))))

module _ (book pattern : List ℕ) (c : Case) (k : ℕ) (before after : List ℕ) (q : Refusal) where
  pub line-last-refusals : LinesAsked book pattern c k Asked.Last before after (Some (Err q)) → LineRefusal (number q)
  unfolding LinesAsked
  line-last-refusals w = line-refusals c book pattern (last_macro (read_book book)) k (number q) (sym (w book pattern (read-itself 264200 book) (read-itself 129 pattern)).told)

  pub line-named-refusals : (text : Bor (List ℕ)) → LinesAsked book pattern c k (Asked.Named text) before after (Some (Err q)) → LineRefusal (number q)
  unfolding LinesAsked
  line-named-refusals text w = line-refusals c book pattern (decimal text.now) k (number q) (sym (w book pattern (read-itself 264200 book) (read-itself 129 pattern)).1.told)
