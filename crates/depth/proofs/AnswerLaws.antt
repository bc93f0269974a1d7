-- The ways out of `depths_in` and of `depth`: one law for each.
use Prim.Native.Nat.{ℕ, suc, ◌*◌, ◌<◌, ◌≤◌}
use native.Mathlib.Omega.{arith}
use mathlib.Core.Path.{◌≡◌, refl, sym, ap, ◌∙◌}
use mathlib.Core.Bool.{Bool, true, false, ◌||◌}
use mathlib.Core.List.{List}
use lib.Dec.{eqb}
use lib.ListN.{length, drop}
use lib.IntN.{pos, sub_ℕ, ◌-ℤ◌}
use mir.Syntax.{w64}
use mir.Val.{SFits, to_z, of_z}
use borrow.Author.Tests.{lt-leb}
use Rattle.refusal.specs.declared.Refusal.{Refusal}
use Rattle.refusal.specs.declared.Refusal.TheVariants.{InvalidDelimiters, RunTooLong}
use Rattle.runs.proofs.KeptLaws.{words-at}
use Rattle.runs.proofs.Tests.{neither}
use Rattle.std.specs.Prelude.{Result, Ok, Err}
use Rattle.book.specs.declared.layout.Book.{Book}
use Rattle.book.specs.Format.{Macro}
use Rattle.book.specs.Expansion.{expansion}
use Rattle.book.specs.Reading.{Reading, read_book, macros_in}
use Rattle.book.specs.Answer.{check_result, offsets_in, opened_figures}
use Rattle.book.specs.Steps.{Settled, settled, answer_by, space_step, InBook, settled_by}
use Rattle.book.proofs.StepLaws.{book-refuses, book-in, space-inside, space-room}
use Rattle.depth.specs.declared.reporting.Depths.{Depths}
use Rattle.depth.specs.declared.unmatched.Delimiters.{Delimiters}
use Rattle.depth.specs.declared.unmatched.Unmatched.{Unmatched}
use Rattle.depth.specs.Depths.{depth_after, lowest_depth}
use Rattle.depth.specs.Answer.{longest, is_short, width, macro_words, filled, depths_of, no_delimiter, delimiter_step, depth_result, stopped, finished, outcome}
use Rattle.depth.specs.Promises.{unmatched_in, too_long, loaded_at, BookFits, MacroDepths}
use Rattle.depth.proofs.CodeLaws.{signed-back, signed-fits}
use Rattle.depth.proofs.UnmatchedLaws.{run_short, run_long, run-loaded, run_small, words-wide, end-openings, lowest-closings}

-- what is kept tells whether a run is short
module _ (opening closing : ℕ) (w : List ℕ) {u : Unmatched} (e : u ≡ unmatched_in opening closing w) where
  kept-short : u.length ≤ longest → is_short w ≡ true
  kept-short h = go (is_short w) refl
    where
      over : u.length ≡ too_long.length → ⊥
      over g = omega arith

      go : (t : Bool) → is_short w ≡ t → is_short w ≡ true
      go true f = f
      go false f = absurd (over (ap (λ (v : Unmatched). v.length) (e ∙ run_long opening closing w f)))

  kept-long : longest < u.length → is_short w ≡ false
  kept-long h = go (is_short w) refl
    where
      go : (t : Bool) → is_short w ≡ t → is_short w ≡ false
      go true f =
          let size : u.length ≡ length w = ap (λ (v : Unmatched). v.length) (e ∙ run_short opening closing w f) in
          lt-leb (length w) longest (omega arith)
      go false f = f

  -- and then the depths
  kept-end : u.length ≤ longest → sub_ℕ u.openings u.closings ≡ depth_after opening closing w
  kept-end h = ap (λ (v : Unmatched). sub_ℕ v.openings v.closings) (e ∙ run_short opening closing w (kept-short h)) ∙ sym (end-openings opening closing w)

  kept-lowest : u.length ≤ longest → sub_ℕ 0 u.closings ≡ lowest_depth opening closing w
  kept-lowest h = ap (λ (v : Unmatched). sub_ℕ 0 v.closings) (e ∙ run_short opening closing w (kept-short h)) ∙ sym (lowest-closings opening closing w)

-- Macro m, whose words were stored.
module _ {keys : Delimiters} {b offsets : List ℕ} {m : ℕ} {before : List ℕ} (g : BookFits keys b offsets m before) {after : List ℕ} (f : after ≡ filled keys.opening keys.closing (macros_in b) m before) {run : Unmatched} (l : run ≡ loaded_at after (m * width)) where
  abbrev ms : List Macro
  ms = macros_in b

  run_is : run ≡ unmatched_in keys.opening keys.closing (expansion ms m)
  run_is =
      let W = macro_words keys.opening keys.closing ms in
      let there = words-at W width (λ i. words-wide keys.opening keys.closing (expansion ms i)) (suc m) m (omega arith) (drop (suc m * width) before) in
      l ∙ run-loaded keys.opening keys.closing (expansion ms m) after there.0 (m * width) (ap (drop (m * width)) f ∙ there.1)

  closings-fit : run.closings ≤ longest
  closings-fit = rw run_is (run_small keys.opening keys.closing (expansion ms m)).0

  openings-fit : run.openings ≤ longest
  openings-fit = rw run_is (run_small keys.opening keys.closing (expansion ms m)).1

  pub closings-cast : SFits w64 (pos run.closings)
  closings-cast = record { sfits = omega (arith, closings-fit) }

  pub openings-cast : SFits w64 (pos run.openings)
  openings-cast = record { sfits = omega (arith, openings-fit) }

  pub end-fits : SFits w64 (to_z w64 run.openings -ℤ to_z w64 run.closings)
  end-fits = signed-fits run.openings run.closings openings-fit closings-fit

  pub lowest-fits : SFits w64 (to_z w64 0 -ℤ to_z w64 run.closings)
  lowest-fits = signed-fits 0 run.closings (omega arith) closings-fit

  pub macro-long : longest < run.length → MacroDepths keys ms m before after (Err RunTooLong)
  unfolding depths_of
  macro-long h = rw (kept-long keys.opening keys.closing (expansion ms m) run_is h, f) refl

  pub macro-depths : run.length ≤ longest
      → finished (to_z w64 (of_z w64 (to_z w64 run.openings -ℤ to_z w64 run.closings))) (to_z w64 (of_z w64 (to_z w64 0 -ℤ to_z w64 run.closings))) after
      ≡ depths_of keys.opening keys.closing (expansion ms m) (filled keys.opening keys.closing ms m before)
  unfolding depths_of
  macro-depths h =
      let end = signed-back run.openings run.closings openings-fit closings-fit ∙ kept-end keys.opening keys.closing (expansion ms m) run_is h in
      let lowest = signed-back 0 run.closings (omega arith) closings-fit ∙ kept-lowest keys.opening keys.closing (expansion ms m) run_is h in
      rw (kept-short keys.opening keys.closing (expansion ms m) run_is h, f, end, lowest) refl

-- The steps before.
module _ (opening closing : ℕ) {t : Bool} (d : t ≡ eqb opening closing || (no_delimiter opening || no_delimiter closing)) where
  pub keys-refused : (book : Reading (List Macro)) (m : ℕ) (before : List ℕ) → t ≡ true → stopped InvalidDelimiters before ≡ depth_result opening closing book m before
  unfolding depth_result delimiter_step
  keys-refused book m before e = rw (sym d ∙ e) refl

  module _ (e : t ≡ false) where
    allowed : delimiter_step opening closing ≡ settled tt
    unfolding delimiter_step
    allowed = rw (sym d ∙ e) refl

    apart : eqb opening closing ≡ false
    apart = (neither (eqb opening closing) (no_delimiter opening || no_delimiter closing) (sym d ∙ e)).0

    module _ (book : List ℕ) (m : ℕ) (before : List ℕ) where
      pub book-refused : (r : Refusal) → opened_figures (Err r) ≡ check_result (read_book book) → stopped r before ≡ depth_result opening closing (read_book book) m before
      unfolding depth_result
      book-refused r g = rw (allowed, book-refuses book g) refl

      module _ (k : Book) (g : opened_figures (Ok k) ≡ check_result (read_book book)) where
        sound : {o : List ℕ} → o ≡ offsets_in book → InBook book o k.macros
        sound t = book-in book k g t

        stepped : (s : Settled (Unit {0})) → s ≡ space_step k.macros m (suc m * width) (length before)
            → depth_result opening closing (read_book book) m before ≡ answer_by (λ r. stopped r before) (λ (u : Unit {0}). depths_of opening closing (expansion (macros_in book) m) (filled opening closing (macros_in book) m before)) s
        unfolding depth_result
        stepped (Settled.refused r) f = rw (allowed, (sound refl).sound, ← (sound refl).many, ← f) refl
        stepped (settled u) f = rw (allowed, (sound refl).sound, ← (sound refl).many, ← f) refl

        pub space-refused : (r : Refusal) → settled_by (Err r) ≡ space_step k.macros m (suc m * width) (length before) → stopped r before ≡ depth_result opening closing (read_book book) m before
        space-refused r f = sym (stepped _ f)

        module _ (f : settled_by (Ok tt) ≡ space_step k.macros m (suc m * width) (length before)) where
          pub book-fits : {o : List ℕ} → o ≡ offsets_in book → BookFits (record { opening = opening; closing = closing }) book o m before
          book-fits t =
              record {
                table = t;
                inside = omega (arith, space-inside k.macros m (suc m * width) (length before) (Ok tt) f refl, (sound t).many);
                apart = apart;
                room = space-room k.macros m (suc m * width) (length before) (Ok tt) f refl;
              }

          pub depth-done : (after : List ℕ) (r : Result Depths Refusal) → MacroDepths (record { opening = opening; closing = closing }) (macros_in book) m before after r → outcome r after ≡ depth_result opening closing (read_book book) m before
          depth-done after r w = w ∙ sym (stepped _ f)
