-- Laws of what the command tells of a line.
use Prim.Native.Nat.{ℕ, ◌<◌, ◌≤◌}
use native.Mathlib.Omega.{arith}
use mathlib.Core.Path.{◌≡◌, refl, sym, ap, subst, ◌∙◌}
use mathlib.Core.Logic.{⊎_elim}
use mathlib.Core.Bool.{Bool, true, false, cond, not}
use mathlib.Core.List.{List, []}
use lib.Dec.{ltb}
use lib.ListN.{length, take, drop, replicate, length-replicate}
use lib.Seq.{take-append_seam}
use borrow.Author.Tests.{ne_eqb, ltb-true, lt-ltb, le-ltb}
use Rattle.refusal.specs.declared.Refusal.{Refusal}
use Rattle.refusal.specs.declared.Refusal.TheVariants.{NoSuchMacro, NoSuchLine, LineNumberOverflow, BufferTooShort}
use Rattle.refusal.specs.Number.{number}
use Rattle.refusal.proofs.Number.{number-injective, number-positive}
use Rattle.refusal.specs.contracts.Refusal.{the_type}
use denote.Enum.Bare.{sameb, differs_true, differs_false}
use Rattle.runs.specs.Kept.{over}
use Rattle.runs.proofs.Tests.{clash, either}
use Rattle.book.specs.Format.{Macro}
use Rattle.book.specs.Expansion.{expansion}
use Rattle.book.specs.Reading.{Reading, got, read_book}
use Rattle.book.proofs.LayoutLaws.{macros-few}
use Rattle.book.proofs.Refusals.{book-refusals}
use Rattle.book.proofs.StepLaws.{space-answer}
use Rattle.letters.specs.declared.Case.{Case}
use Rattle.pattern.specs.Form.{Pattern}
use Rattle.pattern.specs.Meaning.{query}
use Rattle.pattern.specs.Reader as reader
use Rattle.pattern.proofs.Accepts.{pattern-refusals}
use Rattle.extents.specs.Capped.{most}
use Rattle.find.specs.declared.finding.FoundLine.{FoundLine}
use Rattle.find.specs.Lines.{Sought, missing, found, kth_line}
use Rattle.find.specs.Answer as finding
use Rattle.find.proofs.Readings as laws
use Rattle.command.specs.declared.asked.Asked.{Asked}
use Rattle.command.specs.Asked.{asked_number}
use Rattle.command.proofs.AskedLaws.{asked-some, asked-nothing}
use Rattle.command.proofs.ReadLaws.{book-read, pattern-read}
use Rattle.std.specs.Prelude.{Option, None, Some, Result, Ok, Err}
use Rattle.display.specs.declared.asked.LineAnswer.{LineAnswer}
use Rattle.display.specs.Asked.{Told, shown, long, refused, told_of, line_result, line_answer, told_by, unwritten, Answers, LinesAsked}

-- By the line.
told-missing : told_of missing ≡ refused (number NoSuchLine)
unfolding told_of
told-missing = refl

module _ (n : ℕ) (l : List ℕ) where
  told-far : most < n → told_of (found n l) ≡ refused (number LineNumberOverflow)
  unfolding told_of
  told-far h = rw (lt-ltb most n h) refl

  told-long : n ≤ most → 65536 < length l → told_of (found n l) ≡ long n (finding.told (length l))
  unfolding told_of
  told-long h j = rw (le-ltb most n h, lt-ltb 65536 (length l) j) refl

  told-shown : n ≤ most → length l ≤ 65536 → told_of (found n l) ≡ shown n (length l) l
  unfolding told_of
  told-shown h j = rw (le-ltb most n h, le-ltb 65536 (length l) j) refl

-- By the readings of the book and the pattern.
module _ (c : Case) (m k : ℕ) where
  line-refused-book : (r : Refusal) (p : reader.Read) → line_result c (Reading.refused r) p m k ≡ refused (number r)
  unfolding line_result
  line-refused-book r p = refl

  line-refused-pattern : (ms : List Macro) (rest : List ℕ) (r : Refusal) → line_result c (got ms rest) (reader.refused r) m k ≡ refused (number r)
  unfolding line_result
  line-refused-pattern ms rest r = refl

  line-accepted : (ms : List Macro) (rest : List ℕ) (t : Pattern) → line_result c (got ms rest) (reader.accepted t) m k ≡ cond (ltb m (length ms)) (told_of (kth_line (query c t) k (expansion ms m))) (refused (number NoSuchMacro))
  unfolding line_result
  line-accepted ms rest t = space-answer (λ r. refused (number r)) (λ (ms, t). told_of (kth_line (query c t) k (expansion ms m))) (ms, t) (length ms) m 0 0

-- What `find_line` and, where the buffer is too short, `locate_line` answer where this is to be told.
abbrev Seen : List ℕ → Told → finding.Outcome → finding.Location → Type 0
Seen before (shown n i l) o x = (o.refusal ≡ 0) × (o.number ≡ n) × (o.length ≡ i) × (i ≡ length l) × (o.buffer ≡ over l before)
Seen before (long n l) o x = (o.refusal ≡ 17) × (o.buffer ≡ before) × (x.refusal ≡ 0) × (x.number ≡ n) × (x.length ≡ l)
Seen before (refused r) o x = (o.refusal ≡ r) × (0 < r) × (r ≡ 17 → ⊥) × (o.buffer ≡ before)

-- of a refusal before the line is sought
early-seen : (before work : List ℕ) (r : Refusal) (x : finding.Location) → (number r ≡ 17 → ⊥) → Seen before (refused (number r)) (finding.stopped r work before) x
early-seen before work r x h = (refl, number-positive r, h, refl)

module _ (before : List ℕ) (wide : length before ≡ 65536) (work space : List ℕ) where
  line-seen : (s : Sought) → Seen before (told_of s) (finding.find_of s work before) (finding.place_of s space)
  line-seen missing = rw (told-missing, laws.of-missing work before) (early-seen before work NoSuchLine (finding.place_of missing space) (λ e. omega arith))
  line-seen (found n l) =
      either most n (λ h. rw (told-far n l h, laws.of-far work before n l h) (early-seen before work LineNumberOverflow (finding.place_of (found n l) space) (λ e. omega arith)))
      (λ h. either 65536 (length l)
      (λ j. rw (told-long n l h j, laws.of-long work before n l h (rw wide j), laws.place-line space n l h) (refl, refl, refl, refl, refl))
      (λ j. rw (told-shown n l h j, laws.of-line work before n l h (rw wide j)) (refl, refl, refl, refl, refl)))

module _ (c : Case) (b p : List ℕ) (m k : ℕ) (before : List ℕ) (wide : length before ≡ 65536) (work space : List ℕ) (enough : length work ≡ finding.most_words) (room : length space ≡ finding.most_words) where
  pub answer-seen : Seen before (line_answer c b p m k) (finding.find_result c (read_book b) (reader.read_pattern p) m k work before) (finding.locate_result c (read_book b) (reader.read_pattern p) m k space)
  answer-seen = go (read_book b) refl (reader.read_pattern p) refl
    where
      by-macro : (ms : List Macro) (rest : List ℕ) (t : Pattern) → (m < length ms → finding.needed (query c t) m ≤ finding.most_words) → (x : Bool) → ltb m (length ms) ≡ x
          → Seen before (line_result c (got ms rest) (reader.accepted t) m k) (finding.find_result c (got ms rest) (reader.accepted t) m k work before) (finding.locate_result c (got ms rest) (reader.accepted t) m k space)
      by-macro ms rest t few true e =
          let need = few (ltb-true m (length ms) e) in
          rw (line-accepted c m k ms rest t, laws.find-accepted c m k work before ms rest t, laws.locate-accepted c m k space ms rest t, e, le-ltb (length work) (finding.needed (query c t) m) (omega arith), le-ltb (length space) (finding.needed (query c t) m) (omega arith))
          (line-seen before wide (finding.written (query c t) ms m work) (finding.written (query c t) ms m space) (kth_line (query c t) k (expansion ms m)))
      by-macro ms rest t few false e =
          rw (line-accepted c m k ms rest t, laws.find-accepted c m k work before ms rest t, e) (early-seen before work NoSuchMacro (finding.locate_result c (got ms rest) (reader.accepted t) m k space) (λ e. omega arith))

      go : (g : Reading (List Macro)) → read_book b ≡ g → (q : reader.Read) → reader.read_pattern p ≡ q → Seen before (line_result c g q m k) (finding.find_result c g q m k work before) (finding.locate_result c g q m k space)
      go (Reading.refused r) d q e =
          rw (line-refused-book c m k r q, laws.find-refused-book c m k work before r q)
          (early-seen before work r (finding.locate_result c (Reading.refused r) q m k space) (λ f. ⊎_elim (λ low. omega arith) (λ high. omega arith) (book-refusals b r d)))
      go (got ms rest) d (reader.refused r) e =
          rw (line-refused-pattern c m k ms rest r, laws.find-refused-pattern c m k work before ms rest r)
          (early-seen before work r (finding.locate_result c (got ms rest) (reader.refused r) m k space) (λ f. omega (arith, f, (pattern-refusals p r e).1)))
      go (got ms rest) d (reader.accepted t) e = by-macro ms rest t (λ l. laws.needed-most c b p t m e (rw d l)) (ltb m (length ms)) refl

-- What is told where no line is written.
unwritten-other : (r : ℕ) (x : finding.Location) → (r ≡ 17 → ⊥) → unwritten r x ≡ refused r
unfolding unwritten
unwritten-other r x h = rw (ne_eqb r 17 h) refl

module _ {r : ℕ} (x : finding.Location) (h : r ≡ 17) where
  unwritten-line : x.refusal ≡ 0 → unwritten r x ≡ long x.number x.length
  unfolding unwritten
  unwritten-line e = rw (h, e) refl

  unwritten-refused : 0 < x.refusal → unwritten r x ≡ refused x.refusal
  unfolding unwritten
  unwritten-refused e = rw (h, ne_eqb x.refusal 0 (λ z. omega arith)) refl

-- by the code's test whether it is that the buffer is too short
module _ (q : Refusal) {b : Bool} (g : b ≡ not (sameb the_type q BufferTooShort)) where
  pub told-other : (x : finding.Location) → b ≡ true → told_by (Err q) [] ≡ unwritten (number q) x
  told-other x t = sym (unwritten-other (number q) x (λ h. differs_true the_type q BufferTooShort (sym g ∙ t) (number-injective q BufferTooShort h)))

  module _ (t : b ≡ false) (a : Result FoundLine Refusal) (w : List ℕ) {x : finding.Location} (e : finding.placed a w ≡ x) where
    short : number q ≡ 17
    short = ap number (differs_false the_type (search) q BufferTooShort (sym g ∙ t))

    pub told-place : {i : FoundLine} → a ≡ Ok i → told_by (Ok (LineAnswer.Long i)) [] ≡ unwritten (number q) x
    told-place {i} f = rw (← e, f) (sym (unwritten-line (finding.placed (Ok i) w) short refl))

    pub told_none : {o : Refusal} → a ≡ Err o → told_by (Err o) [] ≡ unwritten (number q) x
    told_none {o} f = rw (← e, f) (sym (unwritten-refused (finding.nowhere o w) short (number-positive o)))

-- What the code answers, by what it has been answered.
module _ (before after w : List ℕ) (x : finding.Location) where
  shown_by : (t : Told) (i : FoundLine) → Seen before t (finding.finished i.number i.length w after) x → Answers t before after (Ok (LineAnswer.Shown i))
  shown_by (shown n j keys) i (e, f, g, k, h) = record { told = rw (f, g, k, h, take-append_seam keys (drop (length keys) before)) refl; buffer = h }
  shown_by (long n j) i (e, f, g, h, k) = absurd (omega (arith, e))
  shown_by (refused r) i (e, f, g, h) = absurd (omega (arith, e, f))

  -- what shows no keys tells the same, whatever the buffer holds
  told-alike : (r : Result LineAnswer Refusal) (t : Told) → ((n i : ℕ) (l : List ℕ) → t ≡ shown n i l → ⊥) → told_by r [] ≡ t → told_by r after ≡ t
  told-alike (Ok (LineAnswer.Shown i)) t h v = absurd (h i.number i.length (take i.length []) (sym v))
  told-alike (Ok (LineAnswer.Long i)) t h v = v
  told-alike (Err u) t h v = v

  unwritten-by : (t : Told) (q : Refusal) (r : Result LineAnswer Refusal) → told_by r [] ≡ unwritten (number q) x → Seen before t (finding.stopped q w after) x → Answers t before after r
  unwritten-by (shown i j keys) q r told (e, f, g, k, h) = absurd (omega (arith, e, number-positive q))
  unwritten-by (long i j) q r told (e, f, g, h, k) = record { told = told-alike r (long i j) (λ n i l v. clash (cc)) (told ∙ unwritten-line x e g ∙ rw (h, k) refl); buffer = f }
  unwritten-by (refused i) q r told (e, f, g, h) = record { told = told-alike r (refused i) (λ n i l v. clash (cc)) (told ∙ unwritten-other (number q) x (λ s. g (sym e ∙ s)) ∙ ap refused e); buffer = h }

module _ (c : Case) (b p : List ℕ) (m k : ℕ) (before w after : List ℕ) (a : Result FoundLine Refusal) (wide : length before ≡ 65536)
    (e : finding.outcome a w after ≡ finding.find_result c (read_book b) (reader.read_pattern p) m k (replicate finding.most_words 0) before) where
  -- whatever words the second search has
  seen : (space : List ℕ) → length space ≡ finding.most_words → Seen before (line_answer c b p m k) (finding.outcome a w after) (finding.locate_result c (read_book b) (reader.read_pattern p) m k space)
  seen space room = rw e (answer-seen c b p m k before wide (replicate finding.most_words 0) space (length-replicate {A = ℕ} finding.most_words 0) room)

  pub found-shown : {i : FoundLine} → a ≡ Ok i → Answers (line_answer c b p m k) before after (Ok (LineAnswer.Shown i))
  found-shown {i} f =
      shown_by before after w (finding.locate_result c (read_book b) (reader.read_pattern p) m k (replicate finding.most_words 0)) (line_answer c b p m k) i
      (rw f at (seen (replicate finding.most_words 0) (length-replicate {A = ℕ} finding.most_words 0)))

  pub found-unwritten : {q : Refusal} (r : Result LineAnswer Refusal) → a ≡ Err q → length w ≡ finding.most_words → told_by r [] ≡ unwritten (number q) (finding.locate_result c (read_book b) (reader.read_pattern p) m k w) → Answers (line_answer c b p m k) before after r
  found-unwritten {q} r f room told = unwritten-by before after w (finding.locate_result c (read_book b) (reader.read_pattern p) m k w) (line_answer c b p m k) q r told (rw f at (seen w room))

-- No book has a macro from 1,024 on: all such numbers are refused alike.
line-beyond : (c : Case) (b p : List ℕ) (m n k : ℕ) → 1024 ≤ m → 1024 ≤ n → line_answer c b p m k ≡ line_answer c b p n k
line-beyond c b p m n k g h = go (read_book b) refl (reader.read_pattern p)
  where
    go : (r : Reading (List Macro)) → read_book b ≡ r → (q : reader.Read) → line_result c r q m k ≡ line_result c r q n k
    go (Reading.refused r) d q = line-refused-book c m k r q ∙ sym (line-refused-book c n k r q)
    go (got ms rest) d (reader.refused r) = line-refused-pattern c m k ms rest r ∙ sym (line-refused-pattern c n k ms rest r)
    go (got ms rest) d (reader.accepted t) =
        let few : length ms ≤ 1024 = rw d at (macros-few b) in
        rw (line-accepted c m k ms rest t, line-accepted c n k ms rest t, le-ltb m (length ms) (omega arith), le-ltb n (length ms) (omega arith)) refl

-- A first part of the book and of the pattern is enough.
module _ (book pattern : List ℕ) (c : Case) (k : ℕ) (a : Asked) {o : Option ℕ} (e : o ≡ asked_number a book) (before after : List ℕ) where
  pub lines-read : {m : ℕ} (r : Result LineAnswer Refusal) → o ≡ Some m → Answers (line_answer c book pattern m k) before after r → LinesAsked book pattern c k a before after (Some r)
  unfolding LinesAsked
  lines-read {m} r f w b p g h =
      let same : read_book book ≡ read_book b = book-read book b g in
      let whole : line_answer c book pattern m k ≡ line_answer c b p m k = rw (same, pattern-read pattern p h) refl in
      asked-some book b same (λ m r. Answers (line_answer c b p m k) before after r) (after ≡ before) a e r (λ i j x y z. rw (← line-beyond c b p i j k x y) z) f (subst (λ (t : Told). Answers t before after r) whole w)

  pub lines_none : o ≡ None → after ≡ before → LinesAsked book pattern c k a before after None
  unfolding LinesAsked
  lines_none f same b p g h = asked-nothing book b (book-read book b g) (λ m r. Answers (line_answer c b p m k) before after r) (after ≡ before) a e f same
