-- Demand 3, sentence by sentence, and what demand 1 says of refusals: theorems about the definition that `count_book` is proved to
-- answer, `count_result`.
use Prim.Native.Nat.{ℕ, suc, ◌+◌, ◌*◌, ◌<◌, ◌≤◌}
use native.Mathlib.Omega.{arith}
use native.Mathlib.Nat.{mul-le-mul}
use mathlib.Core.Path.{◌≡◌, refl, sym, ap, ◌∙◌}
use mathlib.Core.Logic.{◌↔◌}
use mathlib.Core.Bool.{Bool, true, false, cond}
use mathlib.Core.List.{List, []}
use lib.Dec.{leb, ltb}
use lib.ListN.{length, get_or, take, drop}
use borrow.Author.Tests.{leb-true, leb-false, lt-ltb, le-ltb}
use Rattle.refusal.specs.declared.Refusal.{Refusal}
use Rattle.refusal.specs.declared.Refusal.TheVariants.{NoSuchMacro, InsufficientSpace, CountOverflow}
use Rattle.book.specs.Format.{Encodes, Macro, versions}
use Rattle.book.specs.Expansion.{expand, unrolled, expansion}
use Rattle.book.specs.Reach.{AlikeReached}
use Rattle.book.specs.Reading.{Reading, got, refused, read_book, macros_in}
use Rattle.book.proofs.Coding.{encodes-version, encodes-book}
use Rattle.book.proofs.Reach.{expansion-alike}
use Rattle.letters.specs.declared.Case.{Case}
use Rattle.letters.specs.Letters.{SameLetters}
use Rattle.lines.proofs.CaseLaws.{letters-matching}
use Rattle.pattern.specs.Meaning.{Query, query}
use Rattle.pattern.specs.Moves.{states}
use Rattle.pattern.specs.Reader as reader
use Rattle.spans.specs.Pairs.{pairs}
use Rattle.std.specs.Prelude.{Option, Some, None}
use Rattle.reports.specs.Totals.{most, total_of}
use Rattle.reports.proofs.TotalLaws.{few-lines, many-lines}
use Rattle.counter.specs.Counting.{item_steps, steps_within, steps, steps_in, items_to, Outcome, matching_lines, finished, stopped, finished_by, filled, report_size, needed, most_words, count_of, count_result, book_result}
use Rattle.runs.proofs.CountLaws.{sum-le, sum-scale}
use Rattle.pattern.specs.Form.{Pattern}
use Rattle.book.proofs.LayoutLaws.{macros-few}
use Rattle.spans.proofs.PairLaws.{pairs-square}
use Rattle.pattern.proofs.Readings.{accepted-few}
use Rattle.counter.proofs.FrontLaws.{count-refused-book, count-refused-pattern, count-accepted}
use Rattle.reports.specs.Reports.{report}
use Rattle.reports.specs.Words.{behind_rows, loaded_at}
use Rattle.counter.proofs.FillLaws.{reports-at}

-- a sound book of some version, an accepted pattern, a macro of the book, and work space enough
pub record Countable (c : Case) (b p work : List ℕ) (ms : List Macro) (t : Pattern) (m : ℕ) : Type 0 where
  pub version : ℕ
  pub book : Encodes versions b version ms
  pub pattern : reader.read_pattern p ≡ reader.accepted t
  pub inside : m < length ms
  pub enough : needed (query c t) m ≤ length work

module _ {c : Case} {b p work : List ℕ} {ms : List Macro} {t : Pattern} {m : ℕ} (a : Countable c b p work ms t m) where
  -- what is answered then
  answer : book_result c b p m work ≡ count_of a.version (query c t) ms m work
  answer =
      rw (encodes-version a.book, encodes-book a.book, a.pattern, count-accepted, lt-ltb m (length ms) a.inside, le-ltb (length work) (needed (query c t) m) a.enough) refl

  -- "the count given equals the number of lines of the macro's written-out run that match"
  pub count-equals : matching_lines (query c t) ms m ≤ most → book_result c b p m work ≡ finished (matching_lines (query c t) ms m) (steps_in a.version (steps (query c t) ms m)) (filled (query c t) ms m work)
  count-equals h = answer ∙ rw (few-lines (matching_lines (query c t) ms m) h) refl

  -- "The steps that come with a count equal the number that document 01 defines": in version 1
  pub steps-equal : a.version ≡ 1 → matching_lines (query c t) ms m ≤ most → (book_result c b p m work).steps ≡ steps (query c t) ms m
  steps-equal e h = ap (λ (o : Outcome). o.steps) (count-equals h) ∙ rw e refl

  -- "for version 2 the answer's steps are 0"
  pub steps-zero : a.version ≡ 2 → (book_result c b p m work).steps ≡ 0
  steps-zero e = ap (λ (o : Outcome). o.steps) answer ∙ rw e (go (total_of (matching_lines (query c t) ms m)))
    where
      go : (z : Option ℕ) → (finished_by z 0 (filled (query c t) ms m work)).steps ≡ 0
      go (Some n) = refl
      go None = refl

  -- "It is refused exactly when that number passes 2^64 − 1."
  pub count-refused : most < matching_lines (query c t) ms m → book_result c b p m work ≡ stopped CountOverflow (filled (query c t) ms m work)
  count-refused h = answer ∙ rw (many-lines (matching_lines (query c t) ms m) h) refl

  pub refused-exactly : (0 < (book_result c b p m work).refusal) ↔ (most < matching_lines (query c t) ms m)
  refused-exactly = (λ h. go (leb (matching_lines (query c t) ms m) most) refl h, λ h. rw (count-refused h) (omega arith))
    where
      go : (x : Bool) → leb (matching_lines (query c t) ms m) most ≡ x → 0 < (book_result c b p m work).refusal → most < matching_lines (query c t) ms m
      go true e h = absurd (omega (arith, h, ap (λ (o : Outcome). o.refusal) (count-equals (leb-true (matching_lines (query c t) ms m) most e))))
      go false e h = leb-false (matching_lines (query c t) ms m) most e

  -- "After it these first words hold the reports of macros 0 to m", also where 12 is answered
  pub reports-left : (i : ℕ) → i ≤ m → loaded_at (book_result c b p m work).work (i * report_size (query c t)) (states (query c t)) ≡ report (query c t) (expansion ms i)
  reports-left i h =
      reports-at (query c t) (accepted-few p t a.pattern) ms (suc m) i (omega arith) (book_result c b p m work).work (drop (needed (query c t) m) work)
      (ap (λ (o : Outcome). o.work) answer ∙ words (total_of (matching_lines (query c t) ms m)))
    where
      words : (z : Option ℕ) → (finished_by z (steps_in a.version (steps (query c t) ms m)) (filled (query c t) ms m work)).work ≡ filled (query c t) ms m work
      words (Some n) = refl
      words None = refl

-- "give the same count .. or are both refused", and for the same reason
abbrev pub SameCount : Outcome → Outcome → Type 0
SameCount x y = (x.refusal ≡ y.refusal) × (x.lines ≡ y.lines)

-- Macros with one run, in whatever books of whatever versions, give the same count under the same pattern, each with such work space, or are both refused.
module _ {case : Case} {b c p work space : List ℕ} {ms ns : List Macro} {t : Pattern} {m n : ℕ} (x : Countable case b p work ms t m) (y : Countable case c p space ns t n) where
  pub same-counts : expansion ms m ≡ expansion ns n → SameCount (book_result case b p m work) (book_result case c p n space)
  same-counts e = rw (answer x, answer y, e) (go (total_of (matching_lines (query case t) ns n)) (steps_in x.version (steps (query case t) ms m)) (steps_in y.version (steps (query case t) ns n)) (filled (query case t) ms m work) (filled (query case t) ns n space))
    where
      go : (z : Option ℕ) (k j : ℕ) (v w : List ℕ) → SameCount (finished_by z k v) (finished_by z j w)
      go (Some n) k j v w = (refl, refl)
      go None k j v w = (refl, refl)

-- Under a pattern that is refused every sound book is, for the same reason.
pub pattern-refused : (c : Case) (p : List ℕ) {r : Refusal} → reader.read_pattern p ≡ reader.refused r → (b : List ℕ) {v : ℕ} {ms : List Macro} → Encodes versions b v ms → (m : ℕ) (work : List ℕ) → book_result c b p m work ≡ stopped r work
pattern-refused c p {r} e b {v} {ms} s m work = rw (encodes-version s, encodes-book s, e) (count-refused-pattern c v m work ms [] r)

-- Document 02, S-1: "both are asked with the same choice".
-- "Two sound books alike in every macro that the one named reaches, whatever their other macros hold, give the same count for it
-- under the same pattern, each with such work space, or are both refused." They may be of different versions (document 02, S-8).
module _ {case : Case} {b c p work space : List ℕ} {ms ns : List Macro} {t : Pattern} {m : ℕ} (x : Countable case b p work ms t m) (y : Countable case c p space ns t m) (alike : AlikeReached ms ns m) where
  pub alike-counts : SameCount (book_result case b p m work) (book_result case c p m space)
  alike-counts = same-counts x y (expansion-alike ms ns m alike)

-- Runs that differ only in the case of letters have as many lines that match where case is ignored, in whatever books they stand.
pub letters-count : (t : Pattern) (ms ns : List Macro) (m n : ℕ) → SameLetters (expansion ms m) (expansion ns n) → matching_lines (query Case.Ignored t) ms m ≡ matching_lines (query Case.Ignored t) ns n
letters-count t ms ns m n e = letters-matching t (expansion ms m) (expansion ns n) e

-- The steps, which version 1 answers, "are never more than the number of items in the macros up to the one named, times the square of the number of states"
module _ (t : Query) where
  pub steps-bound : (ms : List Macro) (m : ℕ) → steps t ms m ≤ items_to ms m * (states t * states t)
  unfolding steps items_to item_steps
  steps-bound ms m = sum-scale (suc m) (states t * states t) (steps_within t ms) (λ i. length (get_or ms i [])) (λ i. within (get_or ms i []))
    where
      within : (items : Macro) → item_steps t (λ j. expansion ms j) items ≤ length items * (states t * states t)
      within items = sum-le (length items) (states t * states t) (λ k. pairs t (expand (λ j. expansion ms j) (unrolled (take k items)))) (λ k l. pairs-square t (expand (λ j. expansion ms j) (unrolled (take k items))))

-- so are those of an answer of version 1
pub steps-within : {c : Case} {b p work : List ℕ} {ms : List Macro} {t : Pattern} {m : ℕ} (a : Countable c b p work ms t m) → a.version ≡ 1 → matching_lines (query c t) ms m ≤ most → (book_result c b p m work).steps ≤ items_to ms m * (states (query c t) * states (query c t))
steps-within {c} {ms = ms} {t = t} {m = m} a e h = rw (steps-equal a e h) (steps-bound (query c t) ms m)

-- So many words are enough for every sound book and accepted pattern.
pub needed-most : (c : Case) (b p : List ℕ) (t : Pattern) (m : ℕ) → reader.read_pattern p ≡ reader.accepted t → m < length (macros_in b) → needed (query c t) m ≤ most_words
needed-most c b p t m e h =
    let number : suc m ≤ 1024 = omega (arith, macros-few b) in
    let wide : states (query c t) + behind_rows ≤ 32 + behind_rows = omega (arith, accepted-few p t e) in
    mul-le-mul number wide

-- No book has a macro from 1,024 on: all such numbers are refused alike.
pub beyond-alike : (c : Case) (v : ℕ) (b : List ℕ) (p : reader.Read) (m n : ℕ) (work : List ℕ) → 1024 ≤ m → 1024 ≤ n → count_result c v (read_book b) p m work ≡ count_result c v (read_book b) p n work
beyond-alike c v b p m n work g h = go (read_book b) refl p
  where
    go : (r : Reading (List Macro)) → read_book b ≡ r → (q : reader.Read) → count_result c v r q m work ≡ count_result c v r q n work
    go (refused r) d q = count-refused-book c v m work r q ∙ sym (count-refused-book c v n work r q)
    go (got ms rest) d (reader.refused r) = count-refused-pattern c v m work ms rest r ∙ sym (count-refused-pattern c v n work ms rest r)
    go (got ms rest) d (reader.accepted t) =
        let few : length ms ≤ 1024 = rw d at (macros-few b) in
        rw (count-accepted c v m work ms rest t, count-accepted c v n work ms rest t, le-ltb m (length ms) (omega arith), le-ltb n (length ms) (omega arith)) refl

-- Demand 1: "it refuses with the one number that the table in document 01 sets, zeros in the answer and the work space left as
-- stated under it".
module _ (m : ℕ) (work : List ℕ) where
  -- what a refusal leaves
  abbrev Left : Outcome → Type 0
  Left o = 0 < o.refusal → (o.lines ≡ 0) × (o.steps ≡ 0) × ((o.refusal ≡ 12 → ⊥) → o.work ≡ work)

  left-with : (x y : Bool) (z : Option ℕ) (k : ℕ) (v : List ℕ) → Left (cond x (cond y (stopped InsufficientSpace work) (finished_by z k v)) (stopped NoSuchMacro work))
  left-with true true z k v h = (refl, refl, λ e. refl)
  left-with true false (Some n) k v h = absurd (omega arith)
  left-with true false None k v h = (refl, refl, λ e. absurd (e refl))
  left-with false y z k v h = (refl, refl, λ e. refl)

  pub refused-left : (c : Case) (v : ℕ) (g : Reading (List Macro)) (r : reader.Read) → Left (count_result c v g r m work)
  refused-left c v (refused q) r = rw count-refused-book (λ h. (refl, refl, λ e. refl))
  refused-left c v (got ms rest) (reader.refused q) = rw count-refused-pattern (λ h. (refl, refl, λ e. refl))
  refused-left c v (got ms rest) (reader.accepted t) =
      rw (count-accepted c v m work ms rest t)
      (left-with (ltb m (length ms)) (ltb (length work) (needed (query c t) m)) (total_of (matching_lines (query c t) ms m)) (steps_in v (steps (query c t) ms m)) (filled (query c t) ms m work))

  -- Document 02, S-1: what is refused before any work does not depend on whether case is ignored
  abbrev pub SameRefusal : Outcome → Outcome → Type 0
  SameRefusal x y = 0 < x.refusal → (x.refusal ≡ 12 → ⊥) → x ≡ y

  pub refused-alike : (c d : Case) (v : ℕ) (g : Reading (List Macro)) (r : reader.Read) → SameRefusal (count_result c v g r m work) (count_result d v g r m work)
  refused-alike c d v (refused q) r = rw (count-refused-book c v m work q r, count-refused-book d v m work q r) (λ h e. refl)
  refused-alike c d v (got ms rest) (reader.refused q) = rw (count-refused-pattern c v m work ms rest q, count-refused-pattern d v m work ms rest q) (λ h e. refl)
  refused-alike c d v (got ms rest) (reader.accepted t) =
      rw (count-accepted c v m work ms rest t, count-accepted d v m work ms rest t)
      (go (ltb m (length ms)) (ltb (length work) (needed (query c t) m)) (total_of (matching_lines (query c t) ms m)) (steps_in v (steps (query c t) ms m)) (filled (query c t) ms m work) (count_of v (query d t) ms m work))
    where
      go : (x y : Bool) (z : Option ℕ) (k : ℕ) (v : List ℕ) (o : Outcome) → SameRefusal (cond x (cond y (stopped InsufficientSpace work) (finished_by z k v)) (stopped NoSuchMacro work)) (cond x (cond y (stopped InsufficientSpace work) o) (stopped NoSuchMacro work))
      go true true z k v o h e = refl
      go true false (Some n) k v o h e = absurd (omega arith)
      go true false None k v o h e = absurd (e refl)
      go false y z k v o h e = refl
