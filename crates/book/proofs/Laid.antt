-- The walk over the macros of a book: what is known after n of them, and one law for each way on and out.
use Prim.Native.Nat.{ℕ, suc, ◌+◌, ◌-◌, ◌<◌, ◌≤◌}
use native.Mathlib.Omega.{arith}
use native.Mathlib.Numerals.{add-one}
use mathlib.Core.Path.{◌≡◌, refl, sym, ap, ◌∙◌}
use mathlib.Core.List.{List, [], ◌∷◌, ◌++◌, append_assoc, append-nil}
use lib.ListN.{length, drop, get_or, set, replicate, length-drop, length-append}
use lib.Seq.{drop-drop, set_at, append_snoc, get_or_at}
use borrow.Author.Tests.{eq-eqb, ne_eqb}
use Rattle.refusal.specs.declared.Refusal.{Refusal}
use Rattle.refusal.specs.declared.Refusal.TheVariants.{MalformedBody}
use Rattle.std.specs.Prelude.{⊤, Result, Ok, Err}
use Rattle.book.specs.Format.{Macro, versions, width}
use Rattle.book.specs.Offset.{size, starts}
use Rattle.book.specs.Reading.{Reading, got, refused, next, done, read_header, read_macro, read_macros, read_all, read_in, read_book, version_in}
use Rattle.book.specs.Answer.{offsets_of, offsets_in, check_result, checked_figures}
use Rattle.book.specs.Promises.{walk_of, header_of, table_of, table_told}
use Rattle.book.proofs.Header.{header-got, headed-macros, headed-refused}
use Rattle.book.proofs.Offsets.{macro-got, starts-length, starts_more, whole as whole-reading}
use Rattle.refusal.specs.Figures.{answered}
use Rattle.book.proofs.Walks.{walked-refused, walked_at}

-- macros that were read before those of a reading
unfoldable pub prepend : List Macro → Reading (List Macro) → Reading (List Macro)
prepend p g = next g (λ ms. done (p ++ ms))

prepend-none : (g : Reading (List Macro)) → g ≡ prepend [] g
unfolding prepend
prepend-none (got ms rest) = refl
prepend-none (refused r) = refl

prepend-more : (p : List Macro) (m : Macro) (g : Reading (List Macro)) → prepend p (next g (λ ms. done (m ∷ ms))) ≡ prepend (p ++ (m ∷ [])) g
unfolding prepend
prepend-more p m (got ms rest) = rw append_assoc
prepend-more p m (refused r) = refl

macros-step : (version n k : ℕ) (b rest : List ℕ) (m : Macro) → read_macro version n b ≡ got m rest → read_macros version n (suc k) b ≡ next (read_macros version (suc n) k rest) (λ ms. done (m ∷ ms))
unfolding read_macros
macros-step version n k b rest m e = rw e

-- n of `count` macros of a version were read, the last one ends at `at`, and `offsets` has their offsets
pub record Laid (version : ℕ) (s : List ℕ) (count : ℕ) (offsets : List ℕ) (at n : ℕ) : Type 0 where
  pub macros : List Macro
  pub many : length macros ≡ n
  pub here : get_or (starts (width version) 7 macros) n 0 ≡ at
  pub table : offsets ≡ starts (width version) 7 macros ++ replicate (1024 - n) 0
  pub reading : read_macros version 0 count (drop 7 s) ≡ prepend macros (read_macros version n (count - n) (drop at s))

module _ (version : ℕ) (s : List ℕ) (ev : version ≡ version_in s) (count : ℕ) where
  abbrev answer : Result (List ℕ) Refusal
  answer = table_of (version_in s) (read_all (version_in s) count (drop 7 s))

  as_read : (x : Result (List ℕ) Refusal) → x ≡ table_of version (read_all version count (drop 7 s)) → x ≡ answer
  as_read x e = rw ev at e

  pub laid_none : (offsets : List ℕ) → offsets ≡ replicate 1025 0 → Laid version s count (set offsets 0 7) 7 0
  unfolding starts
  laid_none offsets e =
      let all : count ≡ count - 0 = omega arith in
      record { macros = []; many = refl; here = refl; table = ap (λ (t : List ℕ). set t 0 7) e; reading = prepend-none _ ∙ ap (λ (k : ℕ). prepend [] (read_macros version 0 k (drop 7 s))) all }

  module _ (offsets : List ℕ) (at n : ℕ) (l : Laid version s count offsets at n) (w : Result ℕ Refusal) (h : n < count) (e : w ≡ walk_of (length s) (read_macro version n (drop at s))) where
    less : count - n ≡ suc (count - (n + 1))
    less = omega arith

    pub laid-refused : (r : Refusal) → w ≡ Err r → Err r ≡ answer
    unfolding read_all read_macros prepend
    laid-refused r f =
        let stop : read_macro version n (drop at s) ≡ refused r = walked-refused (length s) (read_macro version n (drop at s)) r (sym e ∙ f) in
        as_read (Err r) (rw (l.reading, less, stop) refl)

    pub laid_more : (p : ℕ) → at ≤ length s → count ≤ 1024 → w ≡ Ok p → (p ≤ length s) × Laid version s count (set offsets (n + 1) p) p (n + 1)
    laid_more p in-s few f = on (walked_at (length s) (read_macro version n (drop at s)) p (sym e ∙ f))
      where
        on : ((m : Macro) × (rest : List ℕ) × (read_macro version n (drop at s) ≡ got m rest) × (p ≡ length s - length rest)) → (p ≤ length s) × Laid version s count (set offsets (n + 1) p) p (n + 1)
        on (m, rest, g, q) =
            let (same, long, small) = macro-got version n (drop at s) rest m g in
            let fits : size (width version) m ≤ length s - at = rw length-drop at long in
            let left : length rest ≡ length s - at - size (width version) m = rw (same, length-drop, length-drop) in
            let offset : p ≡ at + size (width version) m = omega arith in
            let there : rest ≡ drop p s = rw (same, offset, drop-drop (size (width version) m) at s) in
            let more : starts (width version) 7 (l.macros ++ (m ∷ [])) ≡ starts (width version) 7 l.macros ++ (p ∷ []) =
            rw (offset, ← l.here, ← l.many) (starts_more (width version) 7 l.macros m) in
            let wide : length (starts (width version) 7 l.macros) ≡ n + 1 = rw (← l.many) (starts-length (width version) 7 l.macros) in
            let room : 1024 - n ≡ suc (1024 - (n + 1)) = omega arith in (
              omega arith,
              record {
                macros = l.macros ++ (m ∷ []);
                many = rw length-append (ap (λ (k : ℕ). k + 1) l.many);
                here = rw more (get_or_at (starts (width version) 7 l.macros) p [] 0 (n + 1) wide);
                table = rw (more, append_snoc, l.table, room) (set_at (starts (width version) 7 l.macros) 0 (replicate (1024 - (n + 1)) 0) p (n + 1) wide);
                reading = l.reading ∙ rw (less, macros-step version n (count - (n + 1)) (drop at s) rest m g, prepend-more l.macros m (read_macros version (suc n) (count - (n + 1)) rest), there, add-one n);
              },
            )

  module _ (offsets : List ℕ) (at n : ℕ) (l : Laid version s count offsets at n) (h : count ≤ n) (k : n ≤ count) where
    all : read_macros version 0 count (drop 7 s) ≡ got l.macros (drop at s)
    unfolding read_macros prepend
    all =
        let none : count - n ≡ 0 = omega arith in
        l.reading ∙ rw (none, append-nil)

    pub laid-left : at < length s → Err MalformedBody ≡ answer
    unfolding read_all
    laid-left i =
        let some : length (drop at s) ≡ 0 → ⊥ = rw length-drop (omega arith) in
        as_read (Err MalformedBody) (rw (all, ne_eqb _ _ some) refl)

    pub laid_end : length s ≤ at → Ok offsets ≡ answer
    unfolding read_all
    laid_end i =
        let none : length (drop at s) ≡ 0 = rw length-drop (omega arith) in
        let exact : length l.macros ≡ n = l.many in
        as_read (Ok offsets) (rw (all, eq-eqb _ _ none, l.table, exact) refl)

-- the whole book, after its header
module _ (s : List ℕ) (g : Result ℕ Refusal) (e : g ≡ header_of (read_header versions s)) where
  pub header-fits : (k : ℕ) → g ≡ Ok k → (7 ≤ length s) × (k ≤ 1024)
  header-fits k f =
      let (rest, h) = headed-macros (read_header versions s) k (sym e ∙ f) in
      let r = header-got versions s k rest h in
      (r.long, r.few)

  pub header-refused : {r : Refusal} → g ≡ Err r → checked_figures (Err r) ≡ check_result (read_book s)
  unfolding read_book read_in
  header-refused {r} f = rw (headed-refused (read_header versions s) r (sym e ∙ f)) refl

  module _ (k : ℕ) (f : g ≡ Ok k) (w : Result ⊤ Refusal) (o : List ℕ) (h : table_told w o ≡ table_of (version_in s) (read_all (version_in s) k (drop 7 s))) where
    whole : read_book s ≡ read_all (version_in s) k (drop 7 s)
    unfolding read_book read_in
    whole =
        let (rest, i) = headed-macros (read_header versions s) k (sym e ∙ f) in
        rw (i, (header-got versions s k rest i).behind)

    told : (x : Result ⊤ Refusal) → w ≡ x → table_told x o ≡ table_of (version_in s) (read_all (version_in s) k (drop 7 s))
    told x i = ap (λ (y : Result ⊤ Refusal). table_told y o) (sym i) ∙ h

    pub macros-refused : {r : Refusal} → w ≡ Err r → checked_figures (Err r) ≡ check_result (read_book s)
    macros-refused {r} i = rw whole (go (read_all (version_in s) k (drop 7 s)) (told (Err r) i))
      where
        go : (g : Reading (List Macro)) → Err r ≡ table_of (version_in s) g → checked_figures (Err r) ≡ check_result g
        go (got ms rest) j = absurd (cc)
        go (refused q) j = let same : r ≡ q = cc in rw same refl

    -- as many macros as the header says
    pub macros-sound : {u : ⊤} → w ≡ Ok u → answered k ≡ check_result (read_book s)
    unfolding read_book
    macros-sound {u} i = go (read_book s) refl (rw whole (told (Ok u) i))
      where
        go : (g : Reading (List Macro)) → read_book s ≡ g → Ok o ≡ table_of (version_in s) g → answered k ≡ check_result g
        go (got ms rest) j l =
            let (behind, d) = headed-macros (read_header versions s) k (sym e ∙ f) in
            let many : k ≡ length ms = sym (header-got versions s k behind d).count ∙ (whole-reading versions s ms rest j).count in
            ap answered many
        go (refused q) j l = absurd (cc)

    pub macros-laid : {u : ⊤} → w ≡ Ok u → o ≡ offsets_in s
    unfolding offsets_in
    macros-laid {u} i = rw whole (go (read_all (version_in s) k (drop 7 s)) (told (Ok u) i))
      where
        go : (g : Reading (List Macro)) → Ok o ≡ table_of (version_in s) g → o ≡ offsets_of (version_in s) g
        go (got ms rest) j = cc
        go (refused q) j = absurd (cc)
