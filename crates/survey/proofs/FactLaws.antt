-- Laws of what a book holds.
use Prim.Native.Nat.{ℕ, ◌+◌, ◌*◌, ◌<◌, ◌≤◌}
use native.Mathlib.Omega.{arith}
use mathlib.Core.Path.{◌≡◌, refl, sym, ap, ◌∙◌}
use mathlib.Core.Logic.{inl}
use mathlib.Core.List.{List, []}
use mir.Val.{Fits}
use mir.Syntax.{w16, w64}
use lib.ListN.{length, get_or, take}
use lib.Seq.{take_all}
use Rattle.refusal.specs.declared.Refusal.{Refusal}
use Rattle.runs.specs.Counts.{sum_below}
use Rattle.runs.proofs.CountLaws.{sum-none, sum_more, sum-ext}
use Rattle.book.specs.Format.{Macro}
use Rattle.book.specs.MacroItems.{decoded, items_from}
use Rattle.book.specs.Reading.{Reading, got, refused, read_book, version_in, macros_in}
use Rattle.book.specs.Answer.{check_result, offsets_in, opened_figures}
use Rattle.book.specs.declared.layout.Book.{Book}
use Rattle.book.proofs.LayoutLaws.{opened-refused, opened-sound, opened-count}
use Rattle.book.proofs.MacroItems.{items-sound, decoded-few}
use Rattle.book.proofs.Prefix.{book-prefix}
use Rattle.book.proofs.Refusals.{BookNumber, book-refusals}
use Rattle.book.proofs.Sizes.{longest-read}
use Rattle.command.specs.Reads.{BookFrom}
use Rattle.command.proofs.ReadLaws.{read-alike}
use Rattle.survey.specs.declared.facts.Facts.{Facts}
use Rattle.std.specs.Prelude.{Result, Ok, Err}
use Rattle.survey.specs.Facts.{item_count, survey_figures, survey_for, survey_result, Surveys}

-- no sum wraps: a book has fewer than 65,536 macros
pub record Summed (b offsets : List ℕ) (n i sum : ℕ) : Type 0 where
  pub inside : i ≤ n
  pub sums : sum ≡ sum_below i (λ i. length (decoded (items_from b offsets i)))
  pub small : sum ≤ i * 64

module _ (b offsets : List ℕ) where
  pub summed-none : (n : ℕ) → Summed b offsets n 0 0
  summed-none n = record { inside = omega arith; sums = sym (sum-none (λ i. length (decoded (items_from b offsets i)))); small = omega arith }

  pub summed-more : {n i j sum count : ℕ} → Summed b offsets n i sum → i < n → j ≡ i → count ≡ length (decoded (items_from b offsets j)) → Summed b offsets n (i + 1) (sum + count)
  summed-more {n} {i} {j} {sum} {count} s h f e =
      let same : count ≡ length (decoded (items_from b offsets i)) = e ∙ ap (λ (k : ℕ). length (decoded (items_from b offsets k))) f in
      record {
        inside = omega arith;
        sums = rw (sum_more i (λ i. length (decoded (items_from b offsets i))), ← s.sums, same) refl;
        small = omega (arith, s.small, same, decoded-few b offsets i);
      }

  -- no sum wraps: a book has fewer than 65,536 macros
  pub summed-fits : {n i sum count : ℕ} (j : ℕ) → Summed b offsets n i sum → i < n → Fits w16 n → count ≡ length (decoded (items_from b offsets j)) → Fits w64 (sum + count)
  summed-fits {n} {i} {sum} {count} j s h w e =
      let few : count ≤ 64 = omega (arith, e, decoded-few b offsets j) in
      let small : n < 65536 = w.fits in
      record { fits = omega (arith, s.small) }

  pub summed-all : {n i sum : ℕ} → Summed b offsets n i sum → n ≤ i → sum ≡ sum_below n (λ i. length (decoded (items_from b offsets i)))
  summed-all {n} {i} s h = let e : i ≡ n = omega (arith, s.inside) in rw e at s.sums

-- the items of the macros of a sound book
items-counted : (b : List ℕ) → sum_below (length (macros_in b)) (λ i. length (decoded (items_from b (offsets_in b) i))) ≡ item_count (macros_in b)
unfolding item_count
items-counted b = sum-ext (length (macros_in b)) (λ i. length (decoded (items_from b (offsets_in b) i))) (λ i. length (get_or (macros_in b) i [])) each
  where
    each : (i : ℕ) → i < length (macros_in b) → length (decoded (items_from b (offsets_in b) i)) ≡ length (get_or (macros_in b) i [])
    each i h = ap length (items-sound b i h)

-- A book of any length is said to hold what its first 264,200 bytes hold.
pub survey-prefix : (b : List ℕ) → survey_result (take 264200 b) ≡ survey_result b
unfolding survey_result
survey-prefix b = rw (book-prefix 264200 b (omega arith)) (go (read_book b) refl)
  where
    go : (g : Reading (List Macro)) → read_book b ≡ g → survey_for (take 264200 b) g ≡ survey_for b g
    go (got ms rest) e = let short : length b ≤ 264200 = omega (arith, longest-read b ms rest e) in rw (take_all 264200 b short) refl
    go (refused r) e = refl

pub survey-read : (book : List ℕ) (r : Result Facts Refusal) → survey_figures r ≡ survey_result book → Surveys book r
unfolding Surveys
survey-read book r e b read = e ∙ read-alike survey_result 264200 survey-prefix book b read

-- what it promises, for those who go on from it
pub survey-answers : (book : List ℕ) (r : Result Facts Refusal) → Surveys book r → (b : List ℕ) → BookFrom book b → survey_figures r ≡ survey_result b
unfolding Surveys
survey-answers book r a = a

-- What is answered, by what `open` answers.
module _ (b : List ℕ) where
  pub facts-refused : (r : Refusal) → opened_figures (Err r) ≡ check_result (read_book b) → Surveys b (Err r)
  unfolding survey_result
  facts-refused r f = survey-read b (Err r) (rw (opened-refused b f) refl)

  pub facts-sound : (k : Book) {version items bytes : ℕ} → opened_figures (Ok k) ≡ check_result (read_book b) → k.offsets ≡ offsets_in b → version ≡ version_in b → items ≡ sum_below k.macros (λ i. length (decoded (items_from b k.offsets i))) → bytes ≡ length b
      → Surveys b (Ok (record { version = version; macros = k.macros; items = items; bytes = bytes }))
  unfolding survey_result
  facts-sound k {version} {items} {bytes} f table v i s =
      let many : k.macros ≡ length (macros_in b) = opened-count b k f in
      let counted : sum_below k.macros (λ i. length (decoded (items_from b k.offsets i))) ≡ item_count (macros_in b) = rw (many, table) (items-counted b) in
      survey-read b (Ok (record { version = version; macros = k.macros; items = items; bytes = bytes })) (rw (opened-sound b k f, v, i ∙ counted, s, many) refl)

-- What the command is refused for where it says what a book holds: 1 to 6 and 20.
pub survey-refusals : (b : List ℕ) → BookNumber (survey_result b).refusal
unfolding survey_result
survey-refusals b = go (read_book b) refl
  where
    go : (g : Reading (List Macro)) → read_book b ≡ g → BookNumber (survey_for b g).refusal
    go (got ms rest) e = inl (omega arith)
    go (refused r) e = book-refusals b r e
