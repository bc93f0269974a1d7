-- Laws of the work words of a book's macros.
use Prim.Native.Nat.{ℕ, suc, ◌+◌, ◌*◌, ◌<◌, ◌≤◌}
use native.Mathlib.Omega.{arith}
use native.Mathlib.Nat.{mul-le-mul_right, lt_of_le_of_lt}
use mir.Val.{Fits}
use mir.Syntax.{w64}
use mathlib.Core.Path.{◌≡◌, refl, sym, ap, ◌∙◌}
use mathlib.Core.Bool.{true}
use mathlib.Core.List.{List, [], ◌++◌, Memᴰ}
use lib.ListN.{length, get_or, take, drop}
use Rattle.runs.specs.Kept.{first_words}
use Rattle.runs.specs.Counts.{sum_below}
use Rattle.runs.proofs.KeptLaws.{words-none, words-at, words-stored}
use Rattle.runs.proofs.CountLaws.{sum-none, sum_more}
use Rattle.book.specs.declared.item.Item.{Item}
use Rattle.book.specs.declared.item.Item.TheVariants.{Key, Call}
use Rattle.book.specs.Format.{Macro, repeated, well_formed}
use Rattle.book.specs.Expansion.{expansion}
use Rattle.book.specs.Reading.{macros_in}
use Rattle.book.specs.MacroItems.{items_from, decoded}
use Rattle.book.proofs.MacroItems.{decoded-few, items-are}
use Rattle.book.proofs.LayoutLaws.{well-in, macros-few}
use Rattle.book.proofs.Expansion.{expansion-law, expansion-run, well-key, well-call}
use Rattle.pattern.specs.Meaning.{Query}
use Rattle.pattern.specs.Form.{atom_count}
use Rattle.pattern.specs.Moves.{states}
use Rattle.pattern.specs.Automata.{Automaton}
use Rattle.pattern.specs.declared.automaton.Accepting.{Accepting}
use Rattle.pattern.proofs.Readings.{states-of}
use Rattle.reports.specs.Reports.{report}
use Rattle.reports.specs.Words.{behind_rows, loaded_at, stored_at}
use Rattle.reports.proofs.ReportLaws.{report-size}
use Rattle.reports.proofs.StoredLaws.{words-length, loaded-from, stored_there}
use Rattle.counter.specs.declared.items.MacroCount.{MacroCount}
use Rattle.counter.specs.Counting.{steps_within, steps, macro_words, reports_over}
use Rattle.counter.specs.Promises.{place_of, Served, AllServed, ItemsFit, ItemsCounted, MacroFits, Filled}

module _ (t : Query) (few : atom_count t.tree ≤ 29) (ms : List Macro) where
  -- the report of macro j, where those of the first n stand in front
  pub reports-at : (n j : ℕ) → j < n → (work rest : List ℕ) → work ≡ first_words (macro_words t ms) n ++ rest → loaded_at work (j * (states t + behind_rows)) (states t) ≡ report t (expansion ms j)
  reports-at n j h work rest e =
      let (behind, there) = words-at (macro_words t ms) (states t + behind_rows) (λ i. words-length t few (expansion ms i)) n j h rest in
      loaded-from t few (expansion ms j) work behind (j * (states t + behind_rows)) (ap (drop (j * (states t + behind_rows))) e ∙ there)

  -- a macro's items are served by the reports of those below it
  pub served : well_formed ms ≡ true → (i : ℕ) (work rest : List ℕ) → work ≡ first_words (macro_words t ms) i ++ rest → AllServed t (λ j. expansion ms j) work (get_or ms i [])
  served well i work rest e x m = go x.item x.times m
    where
      go : (y : Item) (n : ℕ) → Memᴰ (repeated y n) (get_or ms i []) → Served t (λ j. expansion ms j) work y
      go (Key k) n c = well-key ms well i c
      go (Call j) n c = (reports-at i j (well-call ms well i c) work rest e, expansion-run ms well j)

-- after i macros
pub record FillSoFar (keys enter : List ℕ) (p : Accepting) (ms : List Macro) (m : ℕ) (before after : List ℕ) (n i : ℕ) : Type 0 where
  pub inside : i ≤ suc m
  pub long : length after ≡ length before
  pub few : n ≤ i * 65536
  pub counts : (t : Query) → Automaton t keys enter p → (after ≡ reports_over t ms i before) × (n ≡ sum_below i (steps_within t ms))

module _ {keys enter : List ℕ} {p : Accepting} {ms : List Macro} {m : ℕ} {before : List ℕ} where
  pub fill_start : FillSoFar keys enter p ms m before before 0 0
  fill_start =
      record {
        inside = omega arith;
        long = refl;
        few = omega arith;
        counts = λ t h. let none : 0 * (states t + behind_rows) ≡ 0 = omega arith in (rw (none, words-none (macro_words t ms)) refl, sym (sum-none (steps_within t ms)));
      }

  -- all macros are stored
  pub fill_done : {work : List ℕ} {n i : ℕ} → FillSoFar keys enter p ms m before work n i → m < i → Filled keys enter p ms m before work n
  unfolding steps
  fill_done {work} {n} {i} x h =
      let all : i ≡ suc m = omega (arith, x.inside) in
      record { long = x.long; counts = λ t d. rw all at (x.counts t d) }

module _ {book offsets : List ℕ} {m : ℕ} {p : Accepting} {before : List ℕ} (g : MacroFits book offsets m p before) where
  -- the width of a report is small
  pub width_fits : Fits w64 (p.states + behind_rows)
  width_fits = omega (arith, g.small)

  -- the items of macro i
  pub items-fit : (i : ℕ) {items : Macro} → items ≡ decoded (items_from book offsets i) → ItemsFit items p
  items-fit i e = record { few = rw e (decoded-few book offsets i); small = g.small }

module _ {keys enter : List ℕ} {p : Accepting} {book : List ℕ} {m : ℕ} {before work : List ℕ} {n i : ℕ} (x : FillSoFar keys enter p (macros_in book) m before work n i) where
  module _ {offsets : List ℕ} (g : MacroFits book offsets m p before) (below : i ≤ m) where
    -- a book has at most 1,024 macros
    few : i < 1024
    few = omega (arith, g.inside, macros-few book)

    -- so a place is small
    pub place-fits : Fits w64 (place_of p i)
    place-fits =
        let low : i ≤ 1024 = omega (arith, few) in
        let thin : p.states + behind_rows ≤ 32 + behind_rows = omega (arith, g.small) in
        omega (arith, mul-le-mul_right (p.states + behind_rows) low)

    -- and so are the steps
    pub steps-fit : {items : Macro} {a : MacroCount} → ItemsCounted keys enter p work items a → Fits w64 (n + a.steps)
    steps-fit h = omega (arith, few, x.few, h.few)

    -- macro i, whose items are counted
    module _ {items : Macro} (f : items ≡ decoded (items_from book offsets i)) {a : MacroCount} (h : ItemsCounted keys enter p work items a) where
      pub fill_on : {after : List ℕ} → length after ≡ length work → after ≡ stored_at work (place_of p i) a.report → FillSoFar keys enter p (macros_in book) m before after (n + a.steps) (i + 1)
      fill_on {after} l e =
          record {
            inside = omega arith;
            long = l ∙ x.long;
            few = omega (arith, x.few, h.few);
            counts = λ t d.
                let done = x.counts t d in
                let one = h.counts t d (λ k. expansion ms k) (rw its (served t d.few ms well i work (drop (i * (states t + behind_rows)) before) done.0)) in
                let whole : a.report ≡ report t (expansion ms i) = one.0 ∙ rw its (ap (report t) (sym (expansion-law ms well i))) in
                (next t d done.0 whole, ap (λ (k : ℕ). k + a.steps) done.1 ∙ ap (λ (k : ℕ). sum_below i (steps_within t ms) + k) (one.1 ∙ rw its refl) ∙ sym (sum_more i (steps_within t ms)));
          }
        where
          ms : List Macro
          ms = macros_in book

          well : well_formed ms ≡ true
          well = well-in book g.inside

          its : items ≡ get_or ms i []
          its = f ∙ items-are book offsets i g.table (lt_of_le_of_lt below g.inside)

          next : (t : Query) → Automaton t keys enter p → work ≡ reports_over t ms i before → a.report ≡ report t (expansion ms i) → after ≡ reports_over t ms (i + 1) before
          next t d j w =
              let k = states t + behind_rows in
              let size : (report t (expansion ms i)).s ≡ states t = report-size t (expansion ms i) in
              let room : suc m * k ≤ length before = rw (states-of d) at g.room in
              let low : suc i ≤ suc m = omega arith in
              let there : i * k + k ≤ length work = omega (arith, mul-le-mul_right k low, x.long, room) in
              let run = expansion ms i in
              let put : stored_at work (i * k) (report t run) ≡ take (i * k) work ++ (macro_words t ms i ++ drop (i * k + k) work) =
              stored_there work (i * k) (report t run) (rw size (omega (arith, d.few))) (rw size there) ∙ ap (λ (z : ℕ). take (i * k) work ++ (macro_words t ms i ++ drop (i * k + (z + behind_rows)) work)) size in
              let all : after ≡ take (i * k) work ++ (macro_words t ms i ++ drop (i * k + k) work) =
              e ∙ ap (λ (z : ℕ). stored_at work (i * (z + behind_rows)) a.report) (states-of d) ∙ ap (stored_at work (i * k)) w ∙ put in
              words-stored (macro_words t ms) k (λ q. words-length t d.few (expansion ms q)) i before work after j all
