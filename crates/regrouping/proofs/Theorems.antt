-- Document 02, S-7: "we want to know that it may". What regrouping keeps.
use Prim.Native.Nat.{ℕ, zero, suc, ◌+◌, ◌*◌, ◌<◌, ◌≤◌}
use native.Mathlib.Omega.{arith}
use mathlib.Core.Path.{◌≡◌, refl, sym, ap, ◌∙◌}
use mathlib.Core.Logic.{◌↔◌, ⊎_elim}
use mathlib.Core.Bool.{true}
use mathlib.Core.List.Memᴰ
use mathlib.Core.List.{List, [], ◌∷◌, ◌++◌, Memᴰ}
use lib.Dec.{eqb}
use lib.ListN.{length, get_or, length-append, get_or-eq_default}
use borrow.Author.Tests.{eqb-true, eqb-false}
use Rattle.refusal.specs.declared.Refusal.{Refusal}
use Rattle.runs.proofs.Tests.{by-test, either}
use Rattle.book.specs.declared.item.Item.{Item}
use Rattle.book.specs.declared.item.Item.TheVariants.{Key, Call}
use Rattle.book.specs.Format.{Encodes, repeated, Macro, versions, well_formed, item_fits, fits, encode}
use Rattle.book.specs.declared.item.Repeated.{Repeated}
use Rattle.book.specs.Expansion.{expand, unrolled, expansion}
use Rattle.book.proofs.Expansion.{well-call, unrolled-from, expand-same, expand-both, expand-single, expansion-law}
use Rattle.book.proofs.WellFormed.{TargetSound, ItemSound, MacroSound, BookSound, well-iff, fits_iff, once-fits}
use Rattle.letters.specs.declared.Case.{Case}
use Rattle.pattern.specs.Form.{Pattern}
use Rattle.pattern.specs.Meaning.{Query, query}
use Rattle.pattern.specs.Moves.{states}
use Rattle.pattern.specs.Reader.{read_pattern, refused}
use Rattle.reports.specs.Reports.{report}
use Rattle.reports.specs.Words.{loaded_at}
use Rattle.counter.specs.Counting.{report_size, book_result}
use Rattle.counter.proofs.Demands.{Countable, SameCount, same-counts, pattern-refused, reports-left}
use Rattle.book.specs.Reading.{read_book}
use Rattle.depth.specs.Answer.{depth_result}
use Rattle.depth.proofs.Theorems.{Askable, SameDepths, same_depths}
use Rattle.regrouping.specs.Regrouping.{raised, raised_items, Behind, calling, Regrouped}
use Rattle.regrouping.proofs.Made.{by_number}
use Rattle.regrouping.proofs.Raising.{raised-low, raised-high, raised-most, raised-length, raised-sound, raised-fits, fits-raised, expand-raised}

module _ {ms ns : List Macro} {m j : ℕ} {xs ys zs : Macro} (r : Regrouped ms ns m j xs ys zs) (well : well_formed ms ≡ true) where
  before : BookSound ms
  before = (well-iff ms).0 well

  -- the items of macro m are sound for it
  whole : MacroSound m (xs ++ (ys ++ zs))
  whole = rw r.items at (before.each m r.inside)

  first : (i : Repeated) → Memᴰ i xs → ItemSound m i
  first i c = whole.each i (Memᴰ.append_left (ys ++ zs) c)

  middle : (i : Repeated) → Memᴰ i ys → ItemSound m i
  middle i c = whole.each i (Memᴰ.append_right xs (Memᴰ.append_left zs c))

  last : (i : Repeated) → Memᴰ i zs → ItemSound m i
  last i c = whole.each i (Memᴰ.append_right xs (Memᴰ.append_right ys c))

  -- how many they are
  sizes : length xs + (length ys + length zs) ≤ 64
  sizes = rw (length-append xs (ys ++ zs), length-append ys zs) at whole.few

  -- a macro that goes up with its items
  other-sound : (i : ℕ) → i < length ms → (i ≡ m → ⊥) → MacroSound (raised j i) (get_or ns (raised j i) [])
  other-sound i h e =
      let s = before.each i h in
      let items = get_or ms i [] in
      rw (r.others i h e)
      (record {
        some = rw (raised-length j items) s.some;
        few = rw (raised-length j items) s.few;
        each = raised-sound j i items s.each;
      })

  -- macro m with the call in place of ys
  caller-sound : 1 ≤ length ys → MacroSound (suc m) (get_or ns (suc m) [])
  caller-sound h =
      rw r.caller
      (record {
        some = rw long (omega arith);
        few = rw long (omega (arith, sizes));
        each = λ i c. ⊎_elim (up xs first i) (λ d. ⊎_elim (λ e. rw e called) (up zs last i) (Memᴰ.cases_cons d)) (Memᴰ.append_cases (raised_items j xs) c);
      })
    where
      long : length (calling j xs zs) ≡ length xs + suc (length zs)
      long = length-append (raised_items j xs) (repeated (Call j) 1 ∷ raised_items j zs) ∙ rw (raised-length j xs, raised-length j zs) refl

      up : (is : Macro) → ((i : Repeated) → Memᴰ i is → ItemSound m i) → (i : Repeated) → Memᴰ i (raised_items j is) → ItemSound (suc m) i
      up is e = rw (raised-high j m r.not_above) at (raised-sound j m is e)

      called : ItemSound (suc m) (repeated (Call j) 1)
      called = record { target = omega (arith, r.not_above); some = omega arith }

  -- and ys by themselves
  part_sound : 1 ≤ length ys → Behind j ys → MacroSound j (get_or ns j [])
  part_sound h lower = rw r.part (record { some = h; few = omega (arith, sizes); each = item })
    where
      target : (x : Item) (n : ℕ) → Memᴰ (repeated x n) ys → TargetSound j x
      target (Key k) n c = (middle (repeated (Key k) n) c).target
      target (Call i) n c = lower i n c

      item : (i : Repeated) → Memᴰ i ys → ItemSound j i
      item i c = record { target = target i.item i.times c; some = (middle i c).some }

  -- so every macro of the regrouped book
  each-sound : 1 ≤ length ys → Behind j ys → (k : ℕ) → k < length ns → MacroSound k (get_or ns k [])
  each-sound h lower = by_number r (λ k. MacroSound k (get_or ns k [])) (part_sound h lower) (caller-sound h) other-sound

  -- The regrouped book is sound exactly if it has at most 1,024 macros, ys is not empty, and j stands behind all that ys calls.
  pub regrouped-sound : (well_formed ns ≡ true) ↔ ((length ns ≤ 1024) × (1 ≤ length ys) × Behind j ys)
  regrouped-sound = (λ h. there ((well-iff ns).0 h), λ (few, some, lower). (well-iff ns).1 (record { some = rw r.longer (omega arith); few = few; each = each-sound some lower }))
    where
      there : BookSound ns → (length ns ≤ 1024) × (1 ≤ length ys) × Behind j ys
      there s =
          let p : MacroSound j ys = rw r.part at (s.each j (omega (arith, r.longer, r.not_above, r.inside))) in
          (s.few, p.some, λ i n c. (p.each (repeated (Call i) n) c).target)

  -- Its items can be written in a version exactly if those of the book before can.
  module _ (version : ℕ) where
    abbrev Fit : Macro → Type 0
    Fit is = (i : Repeated) → Memᴰ i is → item_fits version i ≡ true

    -- the items of macro m, in three parts
    parts-fit : Fit (xs ++ (ys ++ zs)) ↔ (Fit xs × Fit ys × Fit zs)
    parts-fit = (
      λ f. (λ i c. f i (Memᴰ.append_left (ys ++ zs) c), λ i c. f i (Memᴰ.append_right xs (Memᴰ.append_left zs c)), λ i c. f i (Memᴰ.append_right xs (Memᴰ.append_right ys c))),
      λ (f, g, h) i c. ⊎_elim (f i) (λ d. ⊎_elim (g i) (h i) (Memᴰ.append_cases ys d)) (Memᴰ.append_cases xs c),
    )

    calling-fits : Fit (calling j xs zs) ↔ (Fit xs × Fit zs)
    calling-fits = (
      λ f. (fits-raised version j xs (λ i c. f i (Memᴰ.append_left (repeated (Call j) 1 ∷ raised_items j zs) c)), fits-raised version j zs (λ i c. f i (Memᴰ.append_right (raised_items j xs) (Memᴰ.tail c)))),
      λ (f, g) i c. ⊎_elim (raised-fits version j xs f i) (λ d. ⊎_elim (λ e. rw e (once-fits version (Call j))) (raised-fits version j zs g i) (Memᴰ.cases_cons d)) (Memᴰ.append_cases (raised_items j xs) c),
    )

    -- no macro, no items
    beyond : (l : List Macro) (k : ℕ) → length l ≤ k → Fit (get_or l k [])
    beyond l k h i c = absurd (Memᴰ.not-nil (rw (get_or-eq_default l [] h) at c))

    pub regrouped-fits : (fits version ns ≡ true) ↔ (fits version ms ≡ true)
    regrouped-fits = (λ h. (fits_iff version ms).1 (was-fit ((fits_iff version ns).0 h)), λ h. (fits_iff version ns).1 (now-fit ((fits_iff version ms).0 h)))
      where
        now-fit : ((k : ℕ) → Fit (get_or ms k [])) → (k : ℕ) → Fit (get_or ns k [])
        now-fit f k =
            let (x, y, z) = parts-fit.0 (rw r.items at (f m)) in
            either k (length ns)
            (by_number r (λ k. Fit (get_or ns k [])) (rw r.part y) (rw r.caller (calling-fits.1 (x, z))) (λ i h e. rw (r.others i h e) (raised-fits version j (get_or ms i []) (f i))) k)
            (beyond ns k)

        was-fit : ((k : ℕ) → Fit (get_or ns k [])) → (k : ℕ) → Fit (get_or ms k [])
        was-fit f k =
            let (x, z) = calling-fits.0 (rw r.caller at (f (suc m))) in
            let y : Fit ys = rw r.part at (f j) in
            either k (length ms)
            (λ h. by-test (eqb k m)
            (λ t. rw (eqb-true k m t, r.items) (parts-fit.1 (x, y, z)))
            (λ t. fits-raised version j (get_or ms k []) (rw (r.others k h (eqb-false k m t)) at (f (raised j k)))))
            (beyond ms k)

  -- So under these conditions there is such a book, of the same version.
  pub regrouped-book : {taken b : List ℕ} {version : ℕ} → Encodes taken b version ms → length ns ≤ 1024 → 1 ≤ length ys → Behind j ys → Encodes taken (encode version ns) version ns
  regrouped-book {version = version} s few some lower =
      record { known = s.known; well = regrouped-sound.1 (few, some, lower); written = (regrouped-fits version).1 s.written; bytes = refl }

  -- Then every macro has the run that it had.
  module _ (sound : well_formed ns ≡ true) where
    -- the runs before, and now
    abbrev was : ℕ → List ℕ
    was i = expansion ms i

    abbrev now : ℕ → List ℕ
    now i = expansion ns i

    -- all macros below i have the runs that they had
    abbrev Same : ℕ → Type 0
    Same i = (k : ℕ) → k < i → now (raised j k) ≡ was k

    -- then raised items write what they wrote
    items-run : (i : ℕ) → Same i → (is : Macro) → Behind i is → expand now (unrolled (raised_items j is)) ≡ expand was (unrolled is)
    items-run i same is lower = expand-raised j now is ∙ expand-same (λ k. now (raised j k)) was (unrolled is) (λ k c. let (n, d) = unrolled-from is c in same k (lower k n d))

    -- and the new macro writes what ys wrote
    part-run : Same m → now j ≡ expand was (unrolled ys)
    part-run same =
        expansion-law ns sound j
        ∙ rw r.part
        (expand-same now was (unrolled ys) (λ k c. let (n, d) = unrolled-from ys c in ap now (sym (raised-low j k ((regrouped-sound.0 sound).2 k n d))) ∙ same k (middle (repeated (Call k) n) d).target))

    caller-run : Same m → now (suc m) ≡ was m
    caller-run same =
        expansion-law ns sound (suc m)
        ∙ rw r.caller
        (expand-both now (raised_items j xs) (repeated (Call j) 1 ∷ raised_items j zs)
        ∙ rw (items-run m same xs (λ k n c. (first (repeated (Call k) n) c).target), expand-both now (repeated (Call j) 1 ∷ []) (raised_items j zs), expand-single now (Call j), part-run same, items-run m same zs (λ k n c. (last (repeated (Call k) n) c).target))
        (rw (← expand-both was ys zs, ← expand-both was xs (ys ++ zs), ← r.items) (sym (expansion-law ms well m))))

    other-run : (i : ℕ) → i < length ms → (i ≡ m → ⊥) → Same i → now (raised j i) ≡ was i
    other-run i h e same =
        expansion-law ns sound (raised j i)
        ∙ rw (r.others i h e) (items-run i same (get_or ms i []) (λ k n c. well-call ms well i c) ∙ sym (expansion-law ms well i))

    runs-below : (d i : ℕ) → i < d → i < length ms → now (raised j i) ≡ was i
    runs-below zero i h l = absurd (omega arith)
    runs-below (suc d) i h l =
        let same : Same i = λ k g. runs-below d k (omega arith) (omega arith) in
        by-test (eqb i m)
        (λ t. let e : i ≡ m = eqb-true i m t in rw (e, raised-high j m r.not_above) (caller-run (rw e at same)))
        (λ t. other-run i l (eqb-false i m t) same)

    pub regrouped-runs : (i : ℕ) → i < length ms → expansion ns (raised j i) ≡ expansion ms i
    regrouped-runs i h = runs-below (suc i) i (omega arith) h

    -- macro m among them, which is m + 1 now
    pub regrouped-run : expansion ns (suc m) ≡ expansion ms m
    regrouped-run = rw (raised-high j m r.not_above) at (regrouped-runs m r.inside)

    -- and the new macro has the run of ys
    pub regrouped-part : expansion ns j ≡ expand (λ k. expansion ms k) (unrolled ys)
    regrouped-part = part-run (λ k g. regrouped-runs k (omega (arith, r.inside)))

    -- So every macro has the report that it had, under any pattern.
    pub regrouped-reports : (t : Query) (i : ℕ) → i < length ms → report t (expansion ns (raised j i)) ≡ report t (expansion ms i)
    regrouped-reports t i h = ap (report t) (regrouped-runs i h)

    pub regrouped-report : (t : Query) → report t (expansion ns (suc m)) ≡ report t (expansion ms m)
    regrouped-report t = ap (report t) regrouped-run

-- Where a pattern is refused, both books are, for the same reason.
pub regrouped-refused : {ms ns : List Macro} {b d : List ℕ} {v w : ℕ} → Encodes versions d w ns → Encodes versions b v ms → (c : Case) (p : List ℕ) {q : Refusal} → read_pattern p ≡ refused q → (i k : ℕ) (work space : List ℕ)
    → SameCount (book_result c d p i work) (book_result c b p k space)
regrouped-refused {b = b} {d = d} y x c p e i k work space = rw (pattern-refused c p e d y i work, pattern-refused c p e b x k space) (refl, refl)

-- Under an accepted one, with case ignored or not, each with words enough:
module _ {ms ns : List Macro} {m j : ℕ} {xs ys zs : Macro} (r : Regrouped ms ns m j xs ys zs) {c : Case} {b d p work space : List ℕ} {t : Pattern} where
  -- the count of macro m, or 12
  pub regrouped-count : Countable c d p space ns t (suc m) → Countable c b p work ms t m → SameCount (book_result c d p (suc m) space) (book_result c b p m work)
  regrouped-count y x = same-counts y x (regrouped-run r x.book.well y.book.well)

  -- and of every macro
  module _ {k : ℕ} (y : Countable c d p space ns t (raised j k)) (x : Countable c b p work ms t k) where
    pub regrouped-counts : SameCount (book_result c d p (raised j k) space) (book_result c b p k work)
    regrouped-counts = same-counts y x (regrouped-runs r x.book.well y.book.well k x.inside)

    -- the reports that the two counts leave among the work words, each at the place of its macro
    pub regrouped-words : (i : ℕ) → i ≤ k
        → loaded_at (book_result c d p (raised j k) space).work (raised j i * report_size (query c t)) (states (query c t)) ≡ loaded_at (book_result c b p k work).work (i * report_size (query c t)) (states (query c t))
    regrouped-words i h =
        reports-left y (raised j i) (raised-most j i k h) ∙ regrouped-reports r x.book.well y.book.well (query c t) i (omega (arith, x.inside)) ∙ sym (reports-left x i h)

-- And the depths of blocks (document 02, S-6), asked rightly.
pub regrouped-depths : {ms ns : List Macro} {m j : ℕ} {xs ys zs : Macro} → Regrouped ms ns m j xs ys zs → {opening closing : ℕ} {b d work space : List ℕ}
    → Askable opening closing d (suc m) space ns → Askable opening closing b m work ms → SameDepths (depth_result opening closing (read_book d) (suc m) space) (depth_result opening closing (read_book b) m work)
regrouped-depths r y x = same_depths y x (regrouped-run r x.book.well y.book.well)
