-- Laws of what is answered for the k-th matching line.
use Prim.Native.Nat.{ℕ, suc, ◌*◌, ◌<◌, ◌≤◌}
use native.Mathlib.Omega.{arith}
use native.Mathlib.Numerals.{add-one}
use mir.Val.{Fits}
use mir.Syntax.{w64}
use mathlib.Core.Path.{◌≡◌, refl, sym, ap, ◌∙◌}
use mathlib.Core.Bool.{Bool, true, false, not, ◌&&◌, and-true}
use mathlib.Core.List.{List, ◌++◌}
use lib.Dec.{leb}
use lib.ListN.{length, take, drop, length-drop}
use lib.Seq.{take_at, drop_at}
use borrow.Author.Tests.{leb-true, leb-false, le-leb, lt-ltb, le-ltb, ne_eqb, not-true, not-false}
use Rattle.std.specs.Prelude.{Option, Some, None, Result, Ok, Err}
use Rattle.refusal.specs.declared.Refusal.{Refusal}
use Rattle.refusal.specs.declared.Refusal.TheVariants.{CountOverflow, NoSuchLine}
use Rattle.refusal.specs.Number.{number}
use Rattle.refusal.proofs.Number.{number-positive}
use Rattle.runs.specs.Kept.{words_over}
use Rattle.runs.proofs.Tests.{either, clash, and_parts}
use Rattle.book.specs.Format.{Macro}
use Rattle.book.specs.Expansion.{expansion}
use Rattle.book.specs.Reading.{Reading, read_book, macros_in, version_in}
use Rattle.book.specs.Steps.{settled, book_step}
use Rattle.book.proofs.LayoutLaws.{well-in}
use Rattle.pattern.specs.Meaning.{Query, query, matches}
use Rattle.pattern.specs.Reader as reader
use Rattle.pattern.specs.Form.{Pattern}
use Rattle.pattern.specs.Automata.{Automaton}
use Rattle.pattern.specs.declared.automaton.Tables.{Tables}
use Rattle.letters.specs.declared.Case.{Case}
use Rattle.lines.specs.Lines.{lines, matching}
use Rattle.lines.proofs.LineLaws.{matching-is}
use Rattle.reports.specs.Totals.{total_of}
use Rattle.reports.proofs.TotalLaws.{few-lines, many-lines}
use Rattle.counter.specs.declared.counting.Count.{Count}
use Rattle.counter.specs.Counting as counting
use Rattle.counter.specs.Counting.{macro_words, filled, count_of, finished_by, matching_lines}
use Rattle.counter.specs.Front.{pattern_step}
use Rattle.counter.specs.Answers as answers
use Rattle.counter.proofs.FrontLaws.{count-accepted}
use Rattle.extents.specs.Capped.{most, capped}
use Rattle.extents.specs.Words.{width}
use Rattle.extents.proofs.CappedLaws.{capped_small, capped-large}
use Rattle.find.specs.declared.descent.Search.{Search}
use Rattle.find.specs.declared.descent.Located.{Located}
use Rattle.find.specs.declared.finding.FoundLine.{FoundLine}
use Rattle.find.specs.declared.finding.LinePlace.{LinePlace}
use Rattle.find.specs.Lines.{missing, found, kth_line}
use Rattle.find.specs.Answer.{base_of, extent_words_of, written, told}
use Rattle.find.specs.Promises.{Extended, WordsFit, Ready, Locates, has_line, numbered_at, line_at, placed_for, placing, placing_of}
use Rattle.find.proofs.SoundLaws.{Placeable, placed_by}
use Rattle.find.proofs.Readings.{reports_front, extents_behind, written_is, front-length}
use Rattle.find.proofs.LineLaws.{kth-is, kth-missing, kth-zero}

-- the count says whether there is a k-th line
has-line : (t : Query) (ms : List Macro) (m version k : ℕ) (before : List ℕ) (c : Result Count Refusal) (after : List ℕ) → k ≤ most → answers.outcome c after ≡ count_of version t ms m before → has_line c k ≡ (leb 1 k && leb k (matching t (expansion ms m)))
unfolding has_line
has-line t ms m version k before c after h e =
    either most (matching t (expansion ms m))
    (λ l. many c l (e ∙ ap (λ (z : Option ℕ). finished_by z (counting.steps_in version (counting.steps t ms m)) (filled t ms m before)) (many-lines (matching t (expansion ms m)) l)))
    (λ l. few c (e ∙ ap (λ (z : Option ℕ). finished_by z (counting.steps_in version (counting.steps t ms m)) (filled t ms m before)) (few-lines (matching t (expansion ms m)) l)))
  where
    many : (x : Result Count Refusal) → most < matching t (expansion ms m) → answers.outcome x after ≡ counting.stopped CountOverflow (filled t ms m before) → has_line x k ≡ (leb 1 k && leb k (matching t (expansion ms m)))
    many (Ok a) l g = absurd (zero-not (ap (λ (o : counting.Outcome). o.refusal) g))
      where
        zero-not : ◌≡◌ {A = ℕ} 0 12 → ⊥
        zero-not z = omega (arith, z)
    many (Err r) l g = rw (le-leb k (matching t (expansion ms m)) (omega arith)) (sym (and-true (leb 1 k)))

    few : (x : Result Count Refusal) → answers.outcome x after ≡ counting.finished (matching t (expansion ms m)) (counting.steps_in version (counting.steps t ms m)) (filled t ms m before) → has_line x k ≡ (leb 1 k && leb k (matching t (expansion ms m)))
    few (Ok a) g = ap (λ (x : ℕ). leb 1 k && leb k x) (ap (λ (o : counting.Outcome). o.lines) g)
    few (Err r) g = absurd (no_number (number-positive r) (ap (λ (o : counting.Outcome). o.refusal) g))
      where
        no_number : 1 ≤ number r → number r ≡ 0 → ⊥
        no_number p z = omega (arith, p, z)

-- The number of a line, and where its words stand.
abbrev pub with_base : ℕ → Result FoundLine Refusal → Result LinePlace Refusal
with_base base (Ok line) = Ok (record { line = line; base = base })
with_base base (Err r) = Err r

numbered-for : (line : Located) (base before : ℕ) (l : List ℕ) → line.ends ≡ capped before → line.length ≡ told (length l) → with_base base (numbered_at line) ≡ placed_for base (found (suc before) l)
unfolding numbered_at placed_for
numbered-for line base before l e f =
    rw (e, f)
    (either before most
    (λ h. let same : capped before ≡ before = capped_small before (omega arith) in rw (same, ne_eqb before most (omega arith), le-ltb most (suc before) (omega arith)) (ap (λ (n : ℕ). Ok (line_at n (told (length l)) base)) (add-one before)))
    (λ h. let same : capped before ≡ most = capped-large before h in rw (same, lt-ltb most (suc before) (omega arith)) refl))

-- no k-th line
no_line : (t : Query) (k : ℕ) (w : List ℕ) → leb 1 k && leb k (matching t w) ≡ false → kth_line t k w ≡ missing
no_line t k w e =
    kth-is t k w
    ∙ either 0 k
    (λ l. kth-missing (matches t) k 1 (lines w) (rw (← matching-is t w) (leb-false k (matching t w) (rw (le-leb 1 k (omega arith)) at e))))
    (λ l. let none : k ≡ 0 = omega arith in rw none (kth-zero (matches t) 1 (lines w)))

-- What a step tells.
got-book : (r : Reading (List Macro)) (ms : List Macro) → book_step r ≡ settled ms → (rest : List ℕ) × (r ≡ Reading.got ms rest)
got-book (Reading.refused x) ms e = clash (cc)
got-book (Reading.got ns rest) ms e = (rest, ap (λ (l : List Macro). Reading.got l rest) (cc))

pub accepted-tree : (r : reader.Read) (u : Pattern) → pattern_step r ≡ settled u → r ≡ reader.accepted u
accepted-tree (reader.refused x) u e = clash (cc)
accepted-tree (reader.accepted v) u e = ap reader.accepted (cc)

-- The work words, where the count has left the reports in front and the extents are written behind them.
module _ {b offsets : List ℕ} {c : Case} {s : List ℕ} {a : Tables} {m base : ℕ} {before : List ℕ} (x : Placeable b offsets c s a m base before) (work : List ℕ) (long : length work ≡ length before) where
  abbrev ms : List Macro
  ms = macros_in b

  abbrev t : Query
  t = query c x.pattern.tree

  abbrev d : Automaton (query c x.pattern.tree) a.keys a.enter a.accepting
  d = x.pattern.tables

  pub words-room : base ≤ length work
  words-room = omega (arith, x.based, x.room, long)

  -- the two parts, and the second one with the extents
  module _ {front back : List ℕ} (ff : front ≡ take base work) (fb : back ≡ drop base work) where
    pub words-fit-in : WordsFit b offsets m back
    words-fit-in = record { table = x.table; inside = x.inside; room = rw (fb, length-drop base work) (omega (arith, x.based, x.room, long)) }

    module _ {part : List ℕ} (f : part ≡ words_over (extent_words_of (macros_in b)) width (suc m) back) (count : Result Count Refusal) (counted : answers.outcome count work ≡ counting.count_result c (version_in b) (read_book b) (reader.read_pattern s) m before) where
      count-is : answers.outcome count work ≡ count_of (version_in b) t ms m before
      count-is =
          let (rest, o) = got-book (read_book b) ms x.sound in
          let y : reader.read_pattern s ≡ reader.accepted x.pattern.tree = accepted-tree (reader.read_pattern s) x.pattern.tree x.pattern.sound in
          let enough : counting.needed t m ≤ length before = omega (arith, x.room) in
          counted
          ∙ rw (o, y) (count-accepted c (version_in b) m before ms rest x.pattern.tree ∙ rw (lt-ltb m (length ms) x.inside, le-ltb (length before) (counting.needed t m) enough) refl)

      reports-are : work ≡ filled t ms m before
      reports-are = go count count-is
        where
          by_total : (z : Option ℕ) → (finished_by z (counting.steps_in (version_in b) (counting.steps t ms m)) (filled t ms m before)).work ≡ filled t ms m before
          by_total (Some n) = refl
          by_total None = refl

          go : (y : Result Count Refusal) → answers.outcome y work ≡ count_of (version_in b) t ms m before → work ≡ filled t ms m before
          go (Ok q) h = ap (λ (o : counting.Outcome). o.work) h ∙ by_total (total_of (matching t (expansion ms m)))
          go (Err r) h = ap (λ (o : counting.Outcome). o.work) h ∙ by_total (total_of (matching t (expansion ms m)))

      front-is : front ≡ reports_front t ms m before
      front-is = ff ∙ ap (take base) reports-are ∙ take_at (reports_front t ms m before) (drop (base_of t m) before) base (front-length t ms m before d.few x.based)

      part-is : part ≡ extents_behind t ms m before
      part-is = f ∙ ap (words_over (extent_words_of ms) width (suc m)) (fb ∙ ap (drop base) reports-are ∙ drop_at (reports_front t ms m before) (drop (base_of t m) before) base (front-length t ms m before d.few x.based))

      -- they are what is to be written
      parts-are : front ++ part ≡ written t ms m before
      parts-are = rw (front-is, part-is, written_is t ms m before) refl

      -- and what the search rests on
      ready : (search : Search) → search.tables.now ≡ a → search.reports.now ≡ front → search.extents.now ≡ part → search.m ≡ m → Ready t ms search
      unfolding Extended
      ready search st sr se sm =
          record {
            tables = rw st d;
            well = well-in b x.inside;
            reports = rw (sr, sm) front-is;
            extents = rw (se, sm) (drop (suc m * width) (drop (base_of t m) before), part-is);
          }

      -- the line, by whether there is one
      module _ {k : ℕ} (fits : Fits w64 k) {some : Bool} (has : some ≡ has_line count k) where
        has-is : some ≡ (leb 1 k && leb k (matching t (expansion ms m)))
        has-is = has ∙ has-line t ms m (version_in b) k before count work (omega (arith, fits)) count-is

        -- it is where it is looked for, or there is none
        settled-is : {r : Result LinePlace Refusal} → r ≡ placed_for base (kth_line t k (expansion ms m)) → placing r (front ++ part) ≡ placing_of c (read_book b) (reader.read_pattern s) m k before
        settled-is e = rw (e, parts-are, x.based) (placed_by c (read_book b) (reader.read_pattern s) m k before x.settles)

        pub macro-none : not some ≡ true → placing (Err NoSuchLine) (front ++ part) ≡ placing_of c (read_book b) (reader.read_pattern s) m k before
        unfolding placed_for
        macro-none n = settled-is (rw (no_line t k (expansion ms m) (sym has-is ∙ not-true some n)) refl)

        pub macro-some : (search : Search) → search.tables.now ≡ a → search.reports.now ≡ front → search.extents.now ≡ part → search.m ≡ m → search.k ≡ k → not some ≡ false → {line : Located} {r : Result FoundLine Refusal} → Locates b search line → r ≡ numbered_at line
            → placing (with_base base r) (front ++ part) ≡ placing_of c (read_book b) (reader.read_pattern s) m k before
        macro-some search st sr se sm sk q {line} {r} l o =
            let both = and_parts (leb 1 k) (leb k (matching t (expansion ms m))) (sym has-is ∙ not-false some q) in
            let low : 1 ≤ search.k = rw sk (leb-true 1 k both.0) in
            let high : search.k ≤ matching t (expansion ms search.m) = rw (sk, sm) (leb-true k (matching t (expansion ms m)) both.1) in
            let y = rw (sk, sm) at (l.located t (ready search st sr se sm) low high) in
            settled-is (ap (with_base base) o ∙ numbered-for line base y.before y.line y.ends y.size ∙ ap (placed_for base) (sym y.is))
