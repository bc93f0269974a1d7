-- Document 02, S-3, sentence by sentence: theorems about the definition that `find_line` is proved to answer, `find_result`.
use Prim.Native.Nat.{ℕ, zero, suc, ◌+◌, ◌-◌, ◌*◌, ◌<◌, ◌≤◌}
use native.Mathlib.Omega.{arith}
use mathlib.Core.Path.{◌≡◌, refl, sym, ap, ◌∙◌}
use mathlib.Core.Logic.{◌↔◌, ◌⊎◌, inl, inr, ⊎_elim}
use mathlib.Core.Bool.{Bool, true, false, cond}
use mathlib.Core.List.{List, [], ◌∷◌, ◌++◌}
use lib.Dec.{eqb}
use lib.ListN.{length, take, drop}
use lib.Seq.{take-append_seam, take_at, drop-drop}
use borrow.Author.Tests.{eqb-true, eqb-false, lt-ltb, le-ltb}
use Rattle.refusal.specs.declared.Refusal.{Refusal}
use Rattle.refusal.specs.declared.Refusal.TheVariants.{NoSuchLine, LineNumberOverflow, BufferTooShort}
use Rattle.runs.specs.Kept.{over}
use Rattle.runs.proofs.KeptLaws.{words-at}
use Rattle.runs.proofs.Tests.{clash, either}
use Rattle.book.specs.Format.{Encodes, Macro, versions}
use Rattle.book.specs.Expansion.{expansion}
use Rattle.book.specs.Reach.{AlikeReached}
use Rattle.book.specs.Reading.{read_book}
use Rattle.book.proofs.Coding.{encodes-book}
use Rattle.book.proofs.Reach.{expansion-alike}
use Rattle.letters.specs.declared.Case.{Case}
use Rattle.pattern.specs.Form.{Pattern, atom_count}
use Rattle.pattern.specs.Meaning.{Query, query, matches}
use Rattle.pattern.specs.Moves.{states}
use Rattle.pattern.specs.Reader as reader
use Rattle.pattern.proofs.Readings.{accepted-few}
use Rattle.lines.specs.Lines.{lines, count_in, matching}
use Rattle.lines.proofs.LineLaws.{count_none, count-cons, matching-is}
use Rattle.reports.specs.Reports.{report}
use Rattle.reports.specs.Totals as totals
use Rattle.reports.specs.Words.{loaded_at}
use Rattle.counter.specs.Counting as counter
use Rattle.counter.proofs.Demands as counts
use Rattle.counter.proofs.FillLaws.{reports-at}
use Rattle.extents.specs.Capped.{most}
use Rattle.extents.specs.Extents.{extent_of}
use Rattle.extents.specs.Words.{width, extent_words}
use Rattle.find.specs.Lines.{Sought, missing, found, kth_in, kth_line}
use Rattle.find.specs.Answer.{needed, base_of, extent_words_of, written, Outcome, stopped, finished, find_of, find_result}
use Rattle.find.proofs.LineLaws.{kth-at, kth-missing, kth-zero, kth-is}
use Rattle.find.proofs.Readings.{extents_behind, written_is, written_behind, find-accepted, of-missing, of-far, of-long, of-line, find-by}

-- Of any run.

-- the k-th line of w that matches is l, with the number n: it matches, behind n - 1 lines of which k - 1 match
pub record KthLine (q : Query) (k : ℕ) (w : List ℕ) (n : ℕ) (l : List ℕ) : Type 0 where
  pub before : List (List ℕ)
  pub after : List (List ℕ)
  pub split : lines w ≡ before ++ (l ∷ after)
  pub number : n ≡ suc (length before)
  pub matching-line : matches q l ≡ true
  pub earlier : count_in (matches q) before + 1 ≡ k

-- the same of any lines that have X
module _ (X : List ℕ → Bool) where
  abbrev Behind : ℕ → ℕ → List (List ℕ) → ℕ → List ℕ → Type 0
  Behind k n ls p l = (before : List (List ℕ)) × (after : List (List ℕ)) × (ls ≡ before ++ (l ∷ after)) × (p ≡ n + length before) × (X l ≡ true) × (count_in X before + 1 ≡ k)

  kth-behind : (k n : ℕ) (ls : List (List ℕ)) (p : ℕ) (l : List ℕ) → kth_in X k n ls ≡ found p l → Behind k n ls p l
  unfolding kth_in
  kth-behind k n [] p l e = clash (cc)
  kth-behind k n (m ∷ ls) p l e = go (X m) (eqb k 1) refl refl (λ j f. kth-behind j (suc n) ls p l f) e
    where
      one_more : (j : ℕ) → cond (X m) 1 0 + j ≡ k → Behind j (suc n) ls p l → Behind k n (m ∷ ls) p l
      one_more j f (before, after, s, q, x, c) = (m ∷ before, after, ap (λ (r : List (List ℕ)). m ∷ r) s, omega (arith, q), x, omega (arith, c, f, count-cons X m before))

      low : (j : ℕ) → Behind j (suc n) ls p l → 0 < j
      low j (before, after, s, q, x, c) = omega (arith, c)

      go : (a b : Bool) → X m ≡ a → eqb k 1 ≡ b → ((j : ℕ) → kth_in X j (suc n) ls ≡ found p l → Behind j (suc n) ls p l) → cond a (cond b (found n m) (kth_in X (k - 1) (suc n) ls)) (kth_in X k (suc n) ls) ≡ found p l → Behind k n (m ∷ ls) p l
      go true true x y f g =
          let same : m ≡ l = cc in
          let number : p ≡ n = cc in
          ([], ls, ap (λ (r : List ℕ). r ∷ ls) same, omega (arith, number), rw (← same) x, omega (arith, count_none X, eqb-true k 1 y))
      go true false x y f g =
          let rest = f (k - 1) g in
          one_more (k - 1) (rw x (omega (arith, low (k - 1) rest))) rest
      go false b x y f g = one_more k (rw x (omega arith)) (f k g)

  kth-none : (k n : ℕ) (ls : List (List ℕ)) → kth_in X k n ls ≡ missing → (k ≡ 0) ⊎ (count_in X ls < k)
  unfolding kth_in
  kth-none k n [] e = either 0 k (λ h. inr (omega (arith, count_none X))) (λ h. inl (omega arith))
  kth-none k n (l ∷ ls) e = go (X l) (eqb k 1) refl refl (λ j f. kth-none j (suc n) ls f) e
    where
      go : (a b : Bool) → X l ≡ a → eqb k 1 ≡ b → ((j : ℕ) → kth_in X j (suc n) ls ≡ missing → (j ≡ 0) ⊎ (count_in X ls < j)) → cond a (cond b (found n l) (kth_in X (k - 1) (suc n) ls)) (kth_in X k (suc n) ls) ≡ missing → (k ≡ 0) ⊎ (count_in X (l ∷ ls) < k)
      go true true x y f g = clash (cc)
      go true false x y f g =
          let sum : count_in X (l ∷ ls) ≡ 1 + count_in X ls = count-cons X l ls ∙ rw x refl in
          let more = eqb-false k 1 y in
          ⊎_elim (λ z. inl (omega (arith, more))) (λ h. inr (omega (arith, sum))) (f (k - 1) g)
      go false b x y f g =
          let sum : count_in X (l ∷ ls) ≡ count_in X ls = count-cons X l ls ∙ rw x (omega arith) in
          ⊎_elim (λ z. inl z) (λ h. inr (omega (arith, sum))) (f k g)

module _ (q : Query) (k : ℕ) (w : List ℕ) where
  -- "find the k-th matching line of a macro's run: its line number (from 1, all lines counted)"
  pub kth-iff : (n : ℕ) (l : List ℕ) → (kth_line q k w ≡ found n l) ↔ KthLine q k w n l
  kth-iff n l = (into, back)
    where
      into : kth_line q k w ≡ found n l → KthLine q k w n l
      into e =
          let (before, after, s, p, x, c) = kth-behind (matches q) k 1 (lines w) n l (sym (kth-is q k w) ∙ e) in
          record { before = before; after = after; split = s; number = omega (arith, p); matching-line = x; earlier = c }

      back : KthLine q k w n l → kth_line q k w ≡ found n l
      back x =
          let same : 1 + length x.before ≡ n = omega (arith, x.number) in
          kth-is q k w ∙ ap (kth_in (matches q) k 1) x.split ∙ kth-at (matches q) k 1 x.before l x.after x.earlier x.matching-line ∙ ap (λ (p : ℕ). found p l) same

  -- "fewer than k matching lines, or k is 0"
  pub missing-iff : (kth_line q k w ≡ missing) ↔ ((k ≡ 0) ⊎ (matching q w < k))
  missing-iff = (into, ⊎_elim zeroth few)
    where
      into : kth_line q k w ≡ missing → (k ≡ 0) ⊎ (matching q w < k)
      into e = rw (matching-is q w) (kth-none (matches q) k 1 (lines w) (sym (kth-is q k w) ∙ e))

      zeroth : k ≡ 0 → kth_line q k w ≡ missing
      zeroth e = kth-is q k w ∙ ap (λ (j : ℕ). kth_in (matches q) j 1 (lines w)) e ∙ kth-zero (matches q) 1 (lines w)

      few : matching q w < k → kth_line q k w ≡ missing
      few h = kth-is q k w ∙ kth-missing (matches q) k 1 (lines w) (rw (matching-is q w) at h)

-- a longer first part of some lines has no fewer that have X
count-take : (X : List ℕ → Bool) (i j : ℕ) (ls : List (List ℕ)) → i ≤ j → count_in X (take i ls) ≤ count_in X (take j ls)
count-take X zero j ls h = omega (arith, count_none X)
count-take X (suc i) zero ls h = absurd (omega arith)
count-take X (suc i) (suc j) [] h = omega arith
count-take X (suc i) (suc j) (l ∷ ls) h = omega (arith, count-cons X l (take i ls), count-cons X l (take j ls), count-take X i j ls (omega arith))

-- the lines found for k = 1, 2, … stand in the run in that order
pub in_order : (q : Query) (j k : ℕ) (w : List ℕ) (n p : ℕ) (l r : List ℕ) → kth_line q j w ≡ found n l → kth_line q k w ≡ found p r → j < k → n < p
in_order q j k w n p l r e f h = go ((kth-iff q j w n l).0 e) ((kth-iff q k w p r).0 f)
  where
    first_part_lem : {i o : ℕ} {v : List ℕ} (x : KthLine q i w o v) → take (length x.before) (lines w) ≡ x.before
    first_part_lem {v = v} x = ap (take (length x.before)) x.split ∙ take-append_seam x.before (v ∷ x.after)

    fewer : (x : KthLine q j w n l) (y : KthLine q k w p r) → length y.before ≤ length x.before → count_in (matches q) y.before ≤ count_in (matches q) x.before
    fewer x y g = rw (first_part_lem x, first_part_lem y) at (count-take (matches q) (length y.before) (length x.before) (lines w) g)

    go : KthLine q j w n l → KthLine q k w p r → n < p
    go x y =
        either (length x.before) (length y.before) (λ g. omega (arith, x.number, y.number))
        (λ g. absurd (omega (arith, fewer x y g, x.earlier, y.earlier)))

-- Of a sound book.

-- a sound book of some version, an accepted pattern, a macro of the book, and work space enough
pub record Findable (c : Case) (b p work : List ℕ) (ms : List Macro) (t : Pattern) (m : ℕ) : Type 0 where
  pub version : ℕ
  pub book : Encodes versions b version ms
  pub pattern : reader.read_pattern p ≡ reader.accepted t
  pub inside : m < length ms
  pub enough : needed (query c t) m ≤ length work

-- what is answered for the k-th matching line of macro m, of a book and under a pattern as they are lent
abbrev pub answer : Case → List ℕ → List ℕ → ℕ → ℕ → List ℕ → List ℕ → Outcome
answer c b p m k work buffer = find_result c (read_book b) (reader.read_pattern p) m k work buffer

module _ {c : Case} {b p work : List ℕ} {ms : List Macro} {t : Pattern} {m : ℕ} (a : Findable c b p work ms t m) (k : ℕ) (buffer : List ℕ) where
  -- the line that is sought
  abbrev sought : Sought
  sought = kth_line (query c t) k (expansion ms m)

  -- the work words afterwards
  abbrev words : List ℕ
  words = written (query c t) ms m work

  -- the answer is that of the k-th matching line of the macro's run
  pub find-is : answer c b p m k work buffer ≡ find_of (kth_line (query c t) k (expansion ms m)) (written (query c t) ms m work) buffer
  find-is =
      rw (encodes-book a.book, a.pattern, find-accepted c m k work buffer ms [] t, lt-ltb m (length ms) a.inside, le-ltb (length work) (needed (query c t) m) a.enough) refl

  -- "its line number (from 1, all lines counted), the number of its keys, and the keys, written to the front of a lent buffer without LF. The rest of the buffer is not touched."
  pub line-answered : (n : ℕ) (l : List ℕ) → kth_line (query c t) k (expansion ms m) ≡ found n l → n ≤ most → length l ≤ length buffer
      → answer c b p m k work buffer ≡ finished n (length l) (written (query c t) ms m work) (over l buffer)
  line-answered n l e h j = find-is ∙ ap (λ (s : Sought). find_of s words buffer) e ∙ of-line words buffer n l h j

  -- what holds of each of the four answers holds of this one
  answered-by : (P : Sought → Outcome → Type 0) → P missing (stopped NoSuchLine words buffer)
      → ((n : ℕ) (l : List ℕ) → most < n → P (found n l) (stopped LineNumberOverflow words buffer))
      → ((n : ℕ) (l : List ℕ) → n ≤ most → length buffer < length l → P (found n l) (stopped BufferTooShort words buffer))
      → ((n : ℕ) (l : List ℕ) → n ≤ most → length l ≤ length buffer → P (found n l) (finished n (length l) words (over l buffer)))
      → P sought (answer c b p m k work buffer)
  answered-by P none far long line = rw find-is (find-by words buffer P none far long line sought)

  -- "15 fewer than k matching lines, or k is 0"
  pub refused-15 : ((answer c b p m k work buffer).refusal ≡ 15) ↔ ((k ≡ 0) ⊎ (matching (query c t) (expansion ms m) < k))
  refused-15 = (λ e. (missing-iff (query c t) k (expansion ms m)).0 (into e), λ h. back ((missing-iff (query c t) k (expansion ms m)).1 h))
    where
      into : (answer c b p m k work buffer).refusal ≡ 15 → sought ≡ missing
      into = answered-by (λ s o. o.refusal ≡ 15 → s ≡ missing) (λ e. refl) (λ n l h e. absurd (omega arith)) (λ n l h j e. absurd (omega arith)) (λ n l h j e. absurd (omega arith))

      back : sought ≡ missing → (answer c b p m k work buffer).refusal ≡ 15
      back e = ap (λ (o : Outcome). o.refusal) (find-is ∙ ap (λ (s : Sought). find_of s words buffer) e ∙ of-missing words buffer)

  -- "16 the line number passes 2^64 − 1"
  pub refused-16 : ((answer c b p m k work buffer).refusal ≡ 16) ↔ ((n : ℕ) × (l : List ℕ) × (kth_line (query c t) k (expansion ms m) ≡ found n l) × (most < n))
  refused-16 = (into, back)
    where
      into : (answer c b p m k work buffer).refusal ≡ 16 → (n : ℕ) × (l : List ℕ) × (sought ≡ found n l) × (most < n)
      into = answered-by (λ s o. o.refusal ≡ 16 → (n : ℕ) × (l : List ℕ) × (s ≡ found n l) × (most < n)) (λ e. absurd (omega arith)) (λ n l h e. (n, l, refl, h)) (λ n l h j e. absurd (omega arith)) (λ n l h j e. absurd (omega arith))

      back : (n : ℕ) × (l : List ℕ) × (sought ≡ found n l) × (most < n) → (answer c b p m k work buffer).refusal ≡ 16
      back (n, l, e, h) = ap (λ (o : Outcome). o.refusal) (find-is ∙ ap (λ (s : Sought). find_of s words buffer) e ∙ of-far words buffer n l h)

  -- "17 the buffer is shorter than the line"
  pub refused-17 : ((answer c b p m k work buffer).refusal ≡ 17) ↔ ((n : ℕ) × (l : List ℕ) × (kth_line (query c t) k (expansion ms m) ≡ found n l) × (n ≤ most) × (length buffer < length l))
  refused-17 = (into, back)
    where
      into : (answer c b p m k work buffer).refusal ≡ 17 → (n : ℕ) × (l : List ℕ) × (sought ≡ found n l) × (n ≤ most) × (length buffer < length l)
      into = answered-by (λ s o. o.refusal ≡ 17 → (n : ℕ) × (l : List ℕ) × (s ≡ found n l) × (n ≤ most) × (length buffer < length l)) (λ e. absurd (omega arith)) (λ n l h e. absurd (omega arith)) (λ n l h j e. (n, l, refl, h, j)) (λ n l h j e. absurd (omega arith))

      back : (n : ℕ) × (l : List ℕ) × (sought ≡ found n l) × (n ≤ most) × (length buffer < length l) → (answer c b p m k work buffer).refusal ≡ 17
      back (n, l, e, h, j) = ap (λ (o : Outcome). o.refusal) (find-is ∙ ap (λ (s : Sought). find_of s words buffer) e ∙ of-long words buffer n l h j)

  -- "with the lent buffer unchanged and the work words written"
  pub words-and-buffer : ((answer c b p m k work buffer).work ≡ written (query c t) ms m work) × (0 < (answer c b p m k work buffer).refusal → (answer c b p m k work buffer).buffer ≡ buffer)
  words-and-buffer = answered-by (λ s o. (o.work ≡ words) × (0 < o.refusal → o.buffer ≡ buffer)) (refl, λ h. refl) (λ n l h. (refl, λ h. refl)) (λ n l h j. (refl, λ h. refl)) (λ n l h j. (refl, λ h. absurd (omega arith)))

  atoms-few : atom_count t ≤ 29
  atoms-few = accepted-few p t a.pattern

  -- the work words hold the reports of macros 0 to m, as after a count
  pub reports-left : (i : ℕ) → i ≤ m → loaded_at (answer c b p m k work buffer).work (i * counter.report_size (query c t)) (states (query c t)) ≡ report (query c t) (expansion ms i)
  reports-left i h = reports-at (query c t) atoms-few ms (suc m) i (omega arith) (answer c b p m k work buffer).work (extents_behind (query c t) ms m work) (words-and-buffer.0 ∙ written_is (query c t) ms m work)

  -- and "four words a macro more, after all the reports", which say how far its written-out run goes
  pub extents-left : (i : ℕ) → i ≤ m → take width (drop (base_of (query c t) m + i * width) (answer c b p m k work buffer).work) ≡ extent_words (extent_of (expansion ms i))
  extents-left i h =
      let base = base_of (query c t) m in
      let (rest, there) = words-at (extent_words_of ms) width (λ j. refl) (suc m) i (omega arith) (drop (suc m * width) (drop base work)) in
      let behind = written_behind (query c t) ms m work atoms-few refl words-and-buffer.0 in
      ap (take width) (sym (drop-drop (i * width) base (answer c b p m k work buffer).work) ∙ ap (drop (i * width)) behind ∙ there) ∙ take_at (extent_words_of ms i) rest width refl

  -- 15 goes by the count of the same run, where that is answered, whatever words it has
  pub agrees-with-count : {space : List ℕ} (x : counts.Countable c b p space ms t m) (n : ℕ) → (counter.book_result c b p m space).refusal ≡ 0 → (counter.book_result c b p m space).lines ≡ n
      → ((answer c b p m k work buffer).refusal ≡ 15) ↔ ((k ≡ 0) ⊎ (n < k))
  agrees-with-count {space} x n fine e = rw same at refused-15
    where
      few : matching (query c t) (expansion ms m) ≤ totals.most
      few = either totals.most (matching (query c t) (expansion ms m)) (λ h. absurd (omega (arith, fine, (counts.refused-exactly x).1 h))) (λ h. h)

      same : matching (query c t) (expansion ms m) ≡ n
      same = sym (ap (λ (o : counter.Outcome). o.lines) (counts.count-equals x few)) ∙ e

  -- and where that is refused with 12, more lines match than k can ask for: 15 is left for k = 0
  pub agrees-with-many : {space : List ℕ} (x : counts.Countable c b p space ms t m) → (counter.book_result c b p m space).refusal ≡ 12 → k ≤ most → ((answer c b p m k work buffer).refusal ≡ 15) ↔ (k ≡ 0)
  agrees-with-many {space} x e low = (λ f. ⊎_elim (λ z. z) (λ h. absurd (omega (arith, many))) (refused-15.0 f), λ z. refused-15.1 (inl z))
    where
      many : totals.most < matching (query c t) (expansion ms m)
      many = (counts.refused-exactly x).0 (omega (arith, e))

-- the same refusal, or the same line: its number, the number of its keys, and the keys at the front of the buffer, whatever that held before
abbrev pub SameLine : Outcome → Outcome → Type 0
SameLine x y = (x.refusal ≡ y.refusal) × (x.number ≡ y.number) × (x.length ≡ y.length) × (take x.length x.buffer ≡ take y.length y.buffer)

-- and buffers that were one are one
abbrev AndBuffer : List ℕ → List ℕ → Outcome → Outcome → Type 0
AndBuffer buffer other x y = SameLine x y × (buffer ≡ other → x.buffer ≡ y.buffer)

line-alike : (s : Sought) (v w buffer other : List ℕ) → length buffer ≡ length other → AndBuffer buffer other (find_of s v buffer) (find_of s w other)
line-alike s v w buffer other e =
    find-by v buffer (λ s o. AndBuffer buffer other o (find_of s w other))
    (rw (of-missing w other) (same-refusal NoSuchLine))
    (λ n l h. rw (of-far w other n l h) (same-refusal LineNumberOverflow))
    (λ n l h j. rw (of-long w other n l h (rw e at j)) (same-refusal BufferTooShort))
    (λ n l h j. rw (of-line w other n l h (rw e at j)) ((refl, refl, refl, keys l buffer ∙ sym (keys l other)), λ f. ap (over l) f))
    s
  where
    same-refusal : (r : Refusal) → AndBuffer buffer other (stopped r v buffer) (stopped r w other)
    same-refusal r = ((refl, refl, refl, refl), λ f. f)

    keys : (l into : List ℕ) → take (length l) (over l into) ≡ l
    keys l into = take-append_seam l (drop (length l) into)

-- Macros with one run, in whatever books of whatever versions, have the same lines.
module _ {c : Case} {b d p work space : List ℕ} {ms ns : List Macro} {t : Pattern} {m i : ℕ} (x : Findable c b p work ms t m) (y : Findable c d p space ns t i) where
  pub same_lines : expansion ms m ≡ expansion ns i → (k : ℕ) (buffer other : List ℕ) → length buffer ≡ length other
      → SameLine (answer c b p m k work buffer) (answer c d p i k space other) × (buffer ≡ other → (answer c b p m k work buffer).buffer ≡ (answer c d p i k space other).buffer)
  same_lines e k buffer other f = rw (find-is x k buffer, find-is y k other, e) (line-alike (kth_line (query c t) k (expansion ns i)) (written (query c t) ms m work) (written (query c t) ns i space) buffer other f)

-- "Two sound books alike in every macro that the one named reaches": the same line is found in both, with buffers of one length.
module _ {c : Case} {b d p work space : List ℕ} {ms ns : List Macro} {t : Pattern} {m : ℕ} (x : Findable c b p work ms t m) (y : Findable c d p space ns t m) (alike : AlikeReached ms ns m) where
  pub alike-lines : (k : ℕ) (buffer other : List ℕ) → length buffer ≡ length other
      → SameLine (answer c b p m k work buffer) (answer c d p m k space other) × (buffer ≡ other → (answer c b p m k work buffer).buffer ≡ (answer c d p m k space other).buffer)
  alike-lines = same_lines x y (expansion-alike ms ns m alike)
