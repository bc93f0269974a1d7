-- What an opened book says of its reading: the laws by which callers of `open` and `check` go on.
use Prim.Native.Nat.{ℕ, ◌<◌, ◌≤◌}
use native.Mathlib.Omega.{arith}
use mathlib.Core.Path.{◌≡◌, refl, sym, ap, ◌∙◌}
use mathlib.Core.Bool.{true}
use mathlib.Core.List.{List, []}
use lib.ListN.{length, drop}
use borrow.Author.Tests.{lt-ltb, le-ltb}
use denote.Ref.{Bor}
use Rattle.refusal.specs.declared.Refusal.{Refusal}
use Rattle.refusal.specs.Figures.{Figures}
use Rattle.refusal.proofs.Number.{number-injective, number-positive}
use Rattle.std.specs.Prelude.{Result, Ok, Err, IfOk}
use Rattle.book.specs.declared.layout.Book.{Book}
use Rattle.runs.specs.Keys.{member}
use Rattle.book.specs.Format.{Macro, versions, well_formed}
use Rattle.book.specs.Reading.{Reading, got, refused, le16, read_in, read_book, version_in, macros_of, macros_in}
use Rattle.book.specs.Answer.{check_result, checked_figures, layout, offsets_in, offsets_of, opened_figures}
use Rattle.book.proofs.Offsets.{Whole, whole}
use Rattle.book.proofs.Coding.{read-well}

-- What a book has that was read.
pub read-with : (b : List ℕ) {g : Reading (List Macro)} → read_book b ≡ g → read_in versions b ≡ g
unfolding read_book
read-with b e = e

pub whole-book : (b : List ℕ) (ms : List Macro) (rest : List ℕ) → read_book b ≡ got ms rest → Whole versions b ms rest
whole-book b ms rest e = whole versions b ms rest (read-with b e)

-- The figures decide what was read: a refusal has its number, and a sound book has none.
module _ (b : List ℕ) where
  refused-by : (g : Reading (List Macro)) {r : Refusal} → opened_figures (Err r) ≡ check_result g → g ≡ refused r
  refused-by (got ms rest) {r} e = absurd (omega (arith, number-positive r, ap (λ (x : Figures ℕ). x.refusal) e))
  refused-by (refused q) {r} e = ap refused (number-injective q r (sym (ap (λ (x : Figures ℕ). x.refusal) e)))

  pub opened-refused : {r : Refusal} → opened_figures (Err r) ≡ check_result (read_book b) → read_book b ≡ refused r
  opened-refused e = refused-by (read_book b) e

  counted-by : (g : Reading (List Macro)) (n : ℕ) → checked_figures (Ok n) ≡ check_result g → (rest : List ℕ) × (g ≡ got (macros_of g) rest) × (n ≡ length (macros_of g))
  counted-by (got ms rest) n e = (rest, refl, ap (λ (x : Figures ℕ). x.value) e)
  counted-by (refused q) n e = absurd (omega (arith, number-positive q, sym (ap (λ (x : Figures ℕ). x.refusal) e)))

  module _ (n : ℕ) (e : checked_figures (Ok n) ≡ check_result (read_book b)) where
    pub checked-sound : read_book b ≡ got (macros_in b) []
    checked-sound =
        let (rest, g, many) = counted-by (read_book b) n e in
        g ∙ ap (got (macros_in b)) (whole-book b (macros_in b) rest g).end

    pub checked-count : n ≡ length (macros_in b)
    checked-count = (counted-by (read_book b) n e).2

  module _ (k : Book) (e : opened_figures (Ok k) ≡ check_result (read_book b)) where
    pub opened-sound : read_book b ≡ got (macros_in b) []
    opened-sound = checked-sound k.macros e

    pub opened-count : k.macros ≡ length (macros_in b)
    opened-count = checked-count k.macros e

-- So the clauses of `open` decide its whole answer: two answers that meet them for the same bytes are the same.
module _ (s : Bor (List ℕ)) where
  places : (k : Book) (m : ℕ) (o : List ℕ) → k.macros ≡ m → k.offsets ≡ o → k.bytes ≡ s → k ≡ record { bytes = s; macros = m; offsets = o }
  places k m o many table same =
      ap (λ (p : Bor (List ℕ)). record { bytes = p; macros = k.macros; offsets = k.offsets }) same
      ∙ ap (λ (n : ℕ). record { bytes = s; macros = n; offsets = k.offsets }) many
      ∙ ap (λ (t : List ℕ). record { bytes = s; macros = m; offsets = t }) table

  pub layout-figures : {v : Result Book Refusal} → opened_figures v ≡ check_result (read_book s.now) → IfOk v (λ k. k.offsets ≡ offsets_in s.now) → IfOk v (λ k. k.bytes ≡ s) → v ≡ layout s
  unfolding layout offsets_in
  layout-figures {v = Ok k} figures table same =
      let sound = opened-sound s.now k figures in
      let there : k.offsets ≡ offsets_of (version_in s.now) (got (macros_in s.now) []) = table ∙ ap (offsets_of (version_in s.now)) sound in
      rw sound (ap Ok (places k (length (macros_in s.now)) (offsets_of (version_in s.now) (got (macros_in s.now) [])) (opened-count s.now k figures) there same))
  layout-figures {v = Err r} figures table same = rw (opened-refused s.now figures) refl

-- a book that has a macro was read
pub read-in : (b : List ℕ) {i : ℕ} → i < length (macros_in b) → (rest : List ℕ) × (read_book b ≡ got (macros_in b) rest)
read-in b {i} h = go (read_book b) h
  where
    never : i < 0 → ⊥
    never l = omega arith

    go : (g : Reading (List Macro)) → i < length (macros_of g) → (rest : List ℕ) × (g ≡ got (macros_of g) rest)
    go (got ms rest) l = (rest, refl)
    go (refused r) l = absurd (never l)

-- so its macros are well formed
pub well-in : (b : List ℕ) {i : ℕ} → i < length (macros_in b) → well_formed (macros_in b) ≡ true
well-in b h = let (rest, e) = read-in b h in read-well versions b (macros_in b) rest (read-with b e)

-- a book has 1,024 macros at the most
pub macros-few : (b : List ℕ) → length (macros_in b) ≤ 1024
macros-few b = go (read_book b) refl
  where
    go : (g : Reading (List Macro)) → read_book b ≡ g → length (macros_of g) ≤ 1024
    go (got ms rest) e = (whole-book b ms rest e).few
    go (refused r) e = omega arith

-- The version.
module _ (b : List ℕ) where
  pub version-short : length b < 5 → 0 ≡ version_in b
  unfolding version_in
  version-short h = rw (lt-ltb (length b) 5 h) refl

  pub version-told : 5 ≤ length b → {v : ℕ} → v ≡ le16 (drop 3 b) → v ≡ version_in b
  unfolding version_in
  version-told h e = rw (le-ltb (length b) 5 h) e

  -- a sound book's is 1 or 2
  pub version-sound : (ms : List Macro) (rest : List ℕ) → read_book b ≡ got ms rest → member (version_in b) versions ≡ true
  version-sound ms rest e = (whole-book b ms rest e).known
