-- What is answered, by the readings of the book and the pattern, and by the line that is sought.
use Prim.Native.Nat.{ℕ, suc, ◌+◌, ◌<◌, ◌≤◌}
use native.Mathlib.Omega.{arith}
use native.Mathlib.Nat.{mul-le-mul}
use mathlib.Core.Path.{◌≡◌, refl, sym, ap, ◌∙◌}
use mathlib.Core.Logic.{◌⊎◌, inl, inr, ⊎_elim}
use mathlib.Core.Bool.{Bool, true, false, cond}
use mathlib.Core.List.{List, ◌++◌}
use lib.Dec.{ltb}
use lib.ListN.{length, drop, length-append}
use lib.Seq.{drop_at}
use borrow.Author.Tests.{ltb-true, lt-ltb, le-ltb}
use Rattle.refusal.specs.declared.Refusal.{Refusal}
use Rattle.refusal.specs.declared.Refusal.TheVariants.{NoSuchMacro, InsufficientSpace, NoSuchLine, LineNumberOverflow, BufferTooShort}
use Rattle.refusal.specs.Number.{number}
use Rattle.runs.specs.Kept.{over, first_words, words_over}
use Rattle.runs.proofs.Tests.{either}
use Rattle.runs.proofs.KeptLaws.{words-length}
use Rattle.book.specs.Format.{Macro}
use Rattle.book.specs.Expansion.{expansion}
use Rattle.book.specs.Reading.{Reading, got, read_book, macros_in}
use Rattle.book.proofs.LayoutLaws.{macros-few}
use Rattle.book.proofs.Refusals.{book-refusals}
use Rattle.book.proofs.StepLaws.{space-answer}
use Rattle.letters.specs.declared.Case.{Case}
use Rattle.pattern.specs.Form.{Pattern, atom_count}
use Rattle.pattern.specs.Meaning.{Query, query}
use Rattle.pattern.specs.Moves.{states}
use Rattle.pattern.specs.Reader as reader
use Rattle.pattern.proofs.Accepts.{pattern-refusals}
use Rattle.pattern.proofs.Readings.{accepted-few}
use Rattle.reports.specs.Words.{behind_rows}
use Rattle.reports.proofs.StoredLaws as stored
use Rattle.counter.specs.Counting.{report_size, macro_words}
use Rattle.extents.specs.Capped.{most}
use Rattle.extents.specs.Words as extents
use Rattle.find.specs.Lines.{Sought, missing, found, kth_line}
use Rattle.find.specs.Answer.{needed, most_words, base_of, extent_words_of, written, Outcome, stopped, finished, find_of, find_result, told, Location, nowhere, place_of, locate_result}

-- So many words are enough for every sound book and accepted pattern.
pub needed-most : (c : Case) (b p : List ℕ) (t : Pattern) (m : ℕ) → reader.read_pattern p ≡ reader.accepted t → m < length (macros_in b) → needed (query c t) m ≤ most_words
needed-most c b p t m e h =
    let number : suc m ≤ 1024 = omega (arith, macros-few b) in
    let wide : states (query c t) + behind_rows + extents.width ≤ 32 + behind_rows + extents.width = omega (arith, accepted-few p t e) in
    mul-le-mul number wide

-- The work words afterwards: reports, and extents behind them.
module _ (t : Query) (ms : List Macro) (m : ℕ) (work : List ℕ) where
  abbrev pub reports_front : List ℕ
  reports_front = first_words (macro_words t ms) (suc m)

  abbrev pub extents_behind : List ℕ
  extents_behind = words_over (extent_words_of ms) extents.width (suc m) (drop (base_of t m) work)

  pub written_is : written t ms m work ≡ reports_front ++ extents_behind
  unfolding written
  written_is = refl

  module _ (few : atom_count t.tree ≤ 29) {base : ℕ} (based : base ≡ base_of t m) where
    pub front-length : length reports_front ≡ base
    front-length = words-length (macro_words t ms) (report_size t) (λ i. stored.words-length t few (expansion ms i)) (suc m) ∙ sym based

    module _ {after : List ℕ} (stands : after ≡ written t ms m work) where
      pub written-room : base ≤ length after
      written-room = rw (stands ∙ written_is, length-append reports_front extents_behind) (omega (arith, front-length))

      pub written_behind : drop base after ≡ extents_behind
      written_behind = ap (drop base) (stands ∙ written_is) ∙ drop_at reports_front extents_behind base front-length

-- `find_line`, by the readings
module _ (c : Case) (m k : ℕ) (work buffer : List ℕ) where
  pub find-refused-book : (r : Refusal) (p : reader.Read) → find_result c (Reading.refused r) p m k work buffer ≡ stopped r work buffer
  unfolding find_result
  find-refused-book r p = refl

  pub find-refused-pattern : (ms : List Macro) (rest : List ℕ) (r : Refusal) → find_result c (got ms rest) (reader.refused r) m k work buffer ≡ stopped r work buffer
  unfolding find_result
  find-refused-pattern ms rest r = refl

  pub find-accepted : (ms : List Macro) (rest : List ℕ) (t : Pattern) →
      find_result c (got ms rest) (reader.accepted t) m k work buffer
      ≡ cond (ltb m (length ms)) (cond (ltb (length work) (needed (query c t) m)) (stopped InsufficientSpace work buffer) (find_of (kth_line (query c t) k (expansion ms m)) (written (query c t) ms m work) buffer)) (stopped NoSuchMacro work buffer)
  unfolding find_result
  find-accepted ms rest t = space-answer (λ r. stopped r work buffer) (λ (ms, t). find_of (kth_line (query c t) k (expansion ms m)) (written (query c t) ms m work) buffer) (ms, t) (length ms) m (needed (query c t) m) (length work)

-- by the line
module _ (work buffer : List ℕ) where
  pub of-missing : find_of missing work buffer ≡ stopped NoSuchLine work buffer
  unfolding find_of
  of-missing = refl

  module _ (n : ℕ) (l : List ℕ) where
    pub of-far : most < n → find_of (found n l) work buffer ≡ stopped LineNumberOverflow work buffer
    unfolding find_of
    of-far h = rw (lt-ltb most n h) refl

    pub of-long : n ≤ most → length buffer < length l → find_of (found n l) work buffer ≡ stopped BufferTooShort work buffer
    unfolding find_of
    of-long h j = rw (le-ltb most n h, lt-ltb (length buffer) (length l) j) refl

    pub of-line : n ≤ most → length l ≤ length buffer → find_of (found n l) work buffer ≡ finished n (length l) work (over l buffer)
    unfolding find_of
    of-line h j = rw (le-ltb most n h, le-ltb (length buffer) (length l) j) refl

  -- one of the four
  pub find-by : (P : Sought → Outcome → Type 0) → P missing (stopped NoSuchLine work buffer)
      → ((n : ℕ) (l : List ℕ) → most < n → P (found n l) (stopped LineNumberOverflow work buffer))
      → ((n : ℕ) (l : List ℕ) → n ≤ most → length buffer < length l → P (found n l) (stopped BufferTooShort work buffer))
      → ((n : ℕ) (l : List ℕ) → n ≤ most → length l ≤ length buffer → P (found n l) (finished n (length l) work (over l buffer)))
      → (s : Sought) → P s (find_of s work buffer)
  find-by P none far long line missing = rw of-missing none
  find-by P none far long line (found n l) =
      either most n (λ h. rw (of-far n l h) (far n l h))
      (λ h. either (length buffer) (length l) (λ j. rw (of-long n l h j) (long n l h j)) (λ j. rw (of-line n l h j) (line n l h j)))

-- `locate_line`, in the same way
module _ (c : Case) (m k : ℕ) (work : List ℕ) where
  pub locate-refused-book : (r : Refusal) (p : reader.Read) → locate_result c (Reading.refused r) p m k work ≡ nowhere r work
  unfolding locate_result
  locate-refused-book r p = refl

  pub locate-refused-pattern : (ms : List Macro) (rest : List ℕ) (r : Refusal) → locate_result c (got ms rest) (reader.refused r) m k work ≡ nowhere r work
  unfolding locate_result
  locate-refused-pattern ms rest r = refl

  pub locate-accepted : (ms : List Macro) (rest : List ℕ) (t : Pattern) →
      locate_result c (got ms rest) (reader.accepted t) m k work
      ≡ cond (ltb m (length ms)) (cond (ltb (length work) (needed (query c t) m)) (nowhere InsufficientSpace work) (place_of (kth_line (query c t) k (expansion ms m)) (written (query c t) ms m work))) (nowhere NoSuchMacro work)
  unfolding locate_result
  locate-accepted ms rest t = space-answer (λ r. nowhere r work) (λ (ms, t). place_of (kth_line (query c t) k (expansion ms m)) (written (query c t) ms m work)) (ms, t) (length ms) m (needed (query c t) m) (length work)

-- a line that is there, with as many of its keys as are told of
abbrev pub standing : ℕ → List ℕ → List ℕ → Location
standing n l work = record { refusal = 0; number = n; length = told (length l); work = work }

module _ (work : List ℕ) where
  pub place-missing : place_of missing work ≡ nowhere NoSuchLine work
  unfolding place_of
  place-missing = refl

  module _ (n : ℕ) (l : List ℕ) where
    pub place-far : most < n → place_of (found n l) work ≡ nowhere LineNumberOverflow work
    unfolding place_of
    place-far h = rw (lt-ltb most n h) refl

    pub place-line : n ≤ most → place_of (found n l) work ≡ standing n l work
    unfolding place_of
    place-line h = rw (le-ltb most n h) refl

-- Both, side by side: what holds of five pairs of answers holds of what is answered, whatever is asked.

-- what is refused before any work: 1 to 10, 20, and 11 where there are fewer words than are always enough
abbrev pub Early : ℕ → ℕ → Type 0
Early words r = (r ≤ 10) ⊎ ((r ≡ 20) ⊎ ((r ≡ 11) × (words < most_words)))

module _ (work buffer : List ℕ) (P : Outcome → Location → Type 0) (early : (r : Refusal) → Early (length work) (number r) → P (stopped r work buffer) (nowhere r work))
    (none : (v : List ℕ) → P (stopped NoSuchLine v buffer) (nowhere NoSuchLine v))
    (far : (v : List ℕ) → P (stopped LineNumberOverflow v buffer) (nowhere LineNumberOverflow v))
    (long : (n : ℕ) (l v : List ℕ) → length buffer < length l → P (stopped BufferTooShort v buffer) (standing n l v))
    (line : (n : ℕ) (l v : List ℕ) → length l ≤ length buffer → P (finished n (length l) v (over l buffer)) (standing n l v)) where
  both_of : (s : Sought) (v : List ℕ) → P (find_of s v buffer) (place_of s v)
  both_of s v =
      find-by v buffer (λ s o. P o (place_of s v)) (rw (place-missing v) (none v)) (λ n l h. rw (place-far v n l h) (far v))
      (λ n l h j. rw (place-line v n l h) (long n l v j)) (λ n l h j. rw (place-line v n l h) (line n l v j)) s

  both-within : (x y : Bool) (o : Outcome) (q : Location) → (x ≡ true → y ≡ true → length work < most_words) → P o q
      → P (cond x (cond y (stopped InsufficientSpace work buffer) o) (stopped NoSuchMacro work buffer)) (cond x (cond y (nowhere InsufficientSpace work) q) (nowhere NoSuchMacro work))
  both-within true true o q few h = early InsufficientSpace (inr (inr (refl, few refl refl)))
  both-within true false o q few h = h
  both-within false y o q few h = early NoSuchMacro (inl (omega arith))

  pub both_by : (c : Case) (b p : List ℕ) (m k : ℕ) → P (find_result c (read_book b) (reader.read_pattern p) m k work buffer) (locate_result c (read_book b) (reader.read_pattern p) m k work)
  both_by c b p m k = go (read_book b) (reader.read_pattern p) refl refl
    where
      go : (g : Reading (List Macro)) (r : reader.Read) → read_book b ≡ g → reader.read_pattern p ≡ r → P (find_result c g r m k work buffer) (locate_result c g r m k work)
      go (Reading.refused q) r d e =
          rw (find-refused-book c m k work buffer q r, locate-refused-book c m k work q r)
          (early q (⊎_elim (λ low. inl (omega arith)) (λ high. inr (inl high)) (book-refusals b q d)))
      go (got ms rest) (reader.refused q) d e = rw (find-refused-pattern c m k work buffer ms rest q, locate-refused-pattern c m k work ms rest q) (early q (inl (omega (arith, (pattern-refusals p q e).1))))
      go (got ms rest) (reader.accepted t) d e =
          let few : ltb m (length ms) ≡ true → ltb (length work) (needed (query c t) m) ≡ true → length work < most_words = λ x y. omega (arith, ltb-true (length work) (needed (query c t) m) y, needed-most c b p t m e (rw d (ltb-true m (length ms) x))) in
          rw (find-accepted c m k work buffer ms rest t, locate-accepted c m k work ms rest t)
          (both-within (ltb m (length ms)) (ltb (length work) (needed (query c t) m)) (find_of (kth_line (query c t) k (expansion ms m)) (written (query c t) ms m work) buffer) (place_of (kth_line (query c t) k (expansion ms m)) (written (query c t) ms m work)) few (both_of (kth_line (query c t) k (expansion ms m)) (written (query c t) ms m work)))
