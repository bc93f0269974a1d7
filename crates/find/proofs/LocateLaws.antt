-- Laws of where the k-th matching line is.
use Prim.Native.Nat.{ℕ, suc, ◌-◌, ◌*◌, ◌<◌, ◌≤◌, min}
use native.Mathlib.Omega.{arith}
use mir.Val.{Fits, bool_byte}
use mir.Syntax.{w64}
use mathlib.Core.Path.{◌≡◌, refl, sym, ap, ◌∙◌}
use mathlib.Core.Bool.{Bool, true, false, not, cond}
use mathlib.Core.List.{List, [], ◌∷◌}
use lib.Dec.{leb}
use lib.ListN.{length}
use borrow.Author.Tests.{leb-true, leb-false, lt-ltb, le-ltb, not-true, not-false}
use Rattle.runs.specs.Keys.{line_end}
use Rattle.runs.proofs.Tests.{either}
use Rattle.runs.proofs.KeyLaws.{run_none, run-cons}
use Rattle.book.specs.Expansion.{expansion}
use Rattle.book.specs.Reading.{macros_in}
use Rattle.book.proofs.LayoutLaws.{macros-few}
use Rattle.book.proofs.Expansion.{expansion-run}
use Rattle.pattern.specs.Meaning.{Query}
use Rattle.lines.specs.Lines.{trimmed, ends_in_return}
use Rattle.lines.proofs.Trims.{trim-length}
use Rattle.lines.proofs.PartLaws.{later-cons, ends_last}
use Rattle.spans.specs.declared.span.Span.{Span}
use Rattle.spans.specs.declared.span.Edges.{Edges}
use Rattle.spans.proofs.EdgeLaws.{span-edges, edges-finish}
use Rattle.reports.specs.declared.span_count.SpanCount.{SpanCount}
use Rattle.reports.specs.Totals.{value_of}
use Rattle.reports.specs.Reports.{span_count, joined_counts}
use Rattle.reports.proofs.ReportLaws.{join-counts, count-span}
use Rattle.extents.specs.declared.extent.Extent.{Extent}
use Rattle.extents.specs.Capped.{most, capped}
use Rattle.extents.specs.Extents.{end_count, open_part, extent_of}
use Rattle.extents.specs.Words as extents
use Rattle.extents.proofs.CappedLaws.{capped_small, capped-large}
use Rattle.extents.proofs.ExtentLaws.{extent-fields, open_is}
use Rattle.find.specs.declared.descent.Search.{Search}
use Rattle.find.specs.declared.descent.Place.{Place}
use Rattle.find.specs.Lines.{kth_line}
use Rattle.find.specs.Answer.{longest, told}
use Rattle.find.specs.Promises.{closed_by, Ready, RunOf, SearchIn, Starts, Descends, Locates}
use Rattle.find.proofs.FillLaws.{extent-at}
use Rattle.find.proofs.PassLaws.{closed-test}
use Rattle.find.proofs.LineLaws.{kth-closed, kth-last}

-- The number of a line's keys, as far as it is told.
pub told-is : (n : ℕ) → min n longest ≡ told n
unfolding told
told-is n = either n longest (λ h. rw (lt-ltb n longest h) (omega arith)) (λ h. rw (le-ltb n longest h) (omega arith))

-- numbers that stop at the largest tell the same
told-capped : (n d : ℕ) → d ≤ 1 → min (capped n - d) longest ≡ told (n - d)
told-capped n d h =
    rw (← told-is (n - d))
    (either n most
    (λ l. let same : capped n ≡ n = capped_small n (omega arith) in rw same refl)
    (λ l. let same : capped n ≡ most = capped-large n l in rw same (omega arith)))

-- a CR at the end of a run stands behind its last line end
trailing-is : (t : Query) (w : List ℕ) → (span_count t (line_end ∷ w)).span.edges.trailing ≡ ends_in_return (open_part w)
trailing-is t w =
    ap (λ (x : Span). x.edges.trailing) (count-span t (line_end ∷ w))
    ∙ ap (λ (x : Edges). x.trailing) (span-edges t (line_end ∷ w))
    ∙ edges-finish t (line_end ∷ w)
    ∙ ends_last (line_end ∷ w) (later-cons line_end w)
    ∙ ap ends_in_return (sym (open_is w))

module _ {b offsets : List ℕ} {search : Search} (g : SearchIn b offsets search) where
  few : search.m < 1024
  few = omega (arith, g.inside, macros-few b)

  pub locate-low : search.m < 65536
  locate-low = omega (arith, few)

  pub locate-words : Fits w64 (search.m * 4)
  locate-words = omega (arith, few)

  module _ {first : Place} (s : Starts search.tables.now first) {run both : SpanCount} {c : Bool} (f : RunOf search search.m run) (j : both ≡ joined_counts first.count run) (d : c ≡ leb search.k (value_of both.closed)) (fits : Fits w64 search.k) where
    -- the test is whether k lines are closed in the whole run
    tested : (t : Query) → Ready t (macros_in b) search → c ≡ leb search.k (closed_by t (expansion (macros_in b) search.m))
    tested t ready =
        let ms = macros_in b in
        let w = expansion ms search.m in
        let tables = ready.tables in
        let own : run ≡ span_count t w = f.run t ms ready (omega arith) in
        let whole : both ≡ span_count t (line_end ∷ w) = j ∙ rw ((s.place t tables).kept, own) (join-counts t tables.few (line_end ∷ []) w (run-cons line_end [] refl run_none) (expansion-run ms ready.well search.m)) in
        d ∙ ap (λ (y : SpanCount). leb search.k (value_of y.closed)) whole ∙ closed-test t (line_end ∷ w) search.k (omega arith)

    -- the last line, which no LF closes
    pub locate-last : {whole : Extent} {l : ℕ} → not c ≡ true → whole ≡ extents.loaded_at search.extents.now (search.m * extents.width) → l ≡ min whole.last longest → Locates b search (record { ends = whole.ends; length = l })
    locate-last {whole} {l} no-k y z =
        record {
          located = λ t ready some enough.
              let ms = macros_in b in
              let w = expansion ms search.m in
              let own : whole ≡ extent_of w = y ∙ extent-at ms (suc search.m) search.m (omega arith) search.extents.now ready.extents in
              let fields = own ∙ extent-fields w in
              let before : closed_by t w < search.k = leb-false search.k (closed_by t w) (sym (tested t ready) ∙ not-true c no-k) in
              let same : (n : ℕ) → n - 0 ≡ n = λ n. omega arith in
              record {
                before = end_count w;
                line = open_part w;
                is = kth-last t search.k w before enough;
                ends = ap (λ (v : Extent). v.ends) fields;
                size = z ∙ ap (λ (v : Extent). min v.last longest) fields ∙ told_same (length (open_part w));
              };
        }
      where
        told_same : (n : ℕ) → min (capped n) longest ≡ told n
        told_same n = let none : (m : ℕ) → m - 0 ≡ m = λ m. omega arith in rw (none (capped n), none n) at (told-capped n 0 (omega arith))

    -- the line that an LF closes
    pub locate-closed : {at : Place} {n l : ℕ} → not c ≡ false → Descends b search at → n ≡ at.extent.last - bool_byte at.count.span.edges.trailing → l ≡ min n longest → Locates b search (record { ends = at.extent.ends; length = l })
    locate-closed {at} {n} {l} yes-k y z v =
        record {
          located = λ t ready some enough.
              let ms = macros_in b in
              let run-m = expansion ms search.m in
              let x = y.ends t ready some (leb-true search.k (closed_by t run-m) (sym (tested t ready) ∙ not-false c yes-k)) in
              let w = x.before in
              let fields = x.place.sized ∙ extent-fields w in
              let cr : at.count.span.edges.trailing ≡ ends_in_return (open_part w) = ap (λ (q : SpanCount). q.span.edges.trailing) x.place.kept ∙ trailing-is t w in
              record {
                before = end_count w;
                line = trimmed (open_part w);
                is = ap (kth_line t search.k) x.split ∙ kth-closed t search.k w x.behind x.few x.far;
                ends = ap (λ (q : Extent). q.ends) fields;
                size =
                    v
                    ∙ ap (λ (q : ℕ). min q longest) (z ∙ ap (λ (q : Extent). q.last - bool_byte at.count.span.edges.trailing) fields ∙ ap (λ (q : Bool). capped (length (open_part w)) - bool_byte q) cr ∙ ap (λ (q : ℕ). capped (length (open_part w)) - q) (one-if (ends_in_return (open_part w))))
                    ∙ told-capped (length (open_part w)) (cond (ends_in_return (open_part w)) 1 0) (one-most (ends_in_return (open_part w)))
                    ∙ ap told (sym (trim-length (open_part w)));
              };
        }
      where
        one-if : (q : Bool) → bool_byte q ≡ cond q 1 0
        one-if true = refl
        one-if false = refl

        one-most : (q : Bool) → cond q 1 0 ≤ 1
        one-most true = omega arith
        one-most false = omega arith
