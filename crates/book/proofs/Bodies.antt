-- The body of a macro: which part of the book it is, and what `body` answers.
use Prim.Native.Nat.{ℕ, ◌+◌, ◌-◌, ◌*◌, ◌<◌, ◌≤◌}
use native.Mathlib.Omega.{arith}
use mathlib.Core.Path.{◌≡◌, sym, ap, ◌∙◌}
use mathlib.Core.Bool.{true, false}
use mathlib.Core.List.{List, [], ◌++◌}
use lib.ListN.{length, get_or, replicate, get_or-append}
use borrow.Author.Tests.{lt-ltb, le-ltb, le-leb, lt-leb}
use Rattle.refusal.specs.declared.Refusal.{Refusal}
use Rattle.refusal.specs.Number.{number}
use Rattle.book.specs.Format.{Macro, versions, width}
use Rattle.book.specs.Offset.{size, starts, offset, body_part}
use Rattle.book.specs.MacroItems.{items_start, items_end, placed, between, part_from, part_at}
use Rattle.book.specs.Reading.{Reading, got, refused, macros_in, version_in}
use Rattle.book.specs.Answer.{offsets_in, body_of, body_at, refusal_of}
use Rattle.book.proofs.Offsets.{starts-length, book-offsets, book-end}
use Rattle.book.proofs.LayoutLaws.{read-in, read-with}

-- The ways out of `part_of`: three without a place, and the part itself.
module _ (b offsets : List ℕ) (i : ℕ) where
  pub part-high : 1024 ≤ i → placed b offsets i ≡ false
  part-high h = simp (le-ltb _ _ h)

  module _ (h : i < 1024) where
    pub part_none : items_end offsets i < items_start offsets i → placed b offsets i ≡ false
    part_none g = simp (lt-ltb _ _ h, lt-leb _ _ g)

    pub part_out : items_start offsets i ≤ items_end offsets i → length b < items_end offsets i → placed b offsets i ≡ false
    part_out g l = simp (lt-ltb _ _ h, le-leb _ _ g, lt-leb _ _ l)

    pub part_placed : items_start offsets i ≤ items_end offsets i → items_end offsets i ≤ length b → placed b offsets i ≡ true
    part_placed g l = simp (lt-ltb _ _ h, le-leb _ _ g, le-leb _ _ l)

  module _ (p : ℕ × ℕ) where
    pub no_part : placed b offsets i ≡ false → ([] ≡ part_from b offsets i) × (p ≡ part_at p b offsets i)
    unfolding part_from part_at
    no_part e = (rw e, rw e)

    pub some-part : placed b offsets i ≡ true → (between (items_start offsets i) (items_end offsets i) b ≡ part_from b offsets i) × ((p.0, items_start offsets i + p.1) ≡ part_at p b offsets i)
    unfolding part_from part_at
    some-part e = (rw e, rw e)

-- what a book's layout says of its macro i
pub record PartOffsets (b offsets : List ℕ) (i : ℕ) : Type 0 where
  pub few : i < 1024
  pub from : get_or offsets i 0 ≡ offset (version_in b) (macros_in b) i
  pub to : items_end offsets i ≡ get_or offsets i 0 + size (width (version_in b)) (get_or (macros_in b) i [])
  pub fits : items_end offsets i ≤ length b

module _ (b : List ℕ) (i : ℕ) (h : i < length (macros_in b)) where
  pub part-offsets : PartOffsets b (offsets_in b) i
  unfolding offsets_in
  part-offsets =
      let ms = macros_in b in
      let table = offsets_in b in
      let (rest, e) = read-in b h in
      let (end, none, some, most) = book-end versions b ms rest (read-with b e) in
      let (step, fits) = book-offsets versions b ms rest (read-with b e) i h in
      let known : table ≡ starts (width (version_in b)) 7 ms ++ replicate (1024 - length ms) 0 = rw e in
      let at : (j : ℕ) → j < length (starts (width (version_in b)) 7 ms) → get_or table j 0 ≡ offset (version_in b) ms j = λ j l. rw known (get_or-append (starts (width (version_in b)) 7 ms) _ 0 j l) in
      let here : get_or table i 0 ≡ offset (version_in b) ms i = at i (rw starts-length (omega arith)) in
      let there : items_end table i ≡ offset (version_in b) ms (i + 1) = at (i + 1) (rw starts-length (omega arith)) in
      record {
        few = omega arith;
        from = here;
        to = there ∙ step ∙ ap (λ (x : ℕ). x + size (width (version_in b)) (get_or ms i [])) (sym here);
        fits = rw there fits;
      }

  has_part : placed b (offsets_in b) i ≡ true
  has_part =
      let p = part-offsets in
      part_placed b (offsets_in b) i p.few (omega (arith, p.to)) p.fits

  -- the layout leads to its body
  pub part-is : part_from b (offsets_in b) i ≡ body_part (version_in b) b (macros_in b) i
  part-is =
      let p = part-offsets in
      let table = offsets_in b in
      let long : items_end table i - items_start table i ≡ width (version_in b) * length (get_or (macros_in b) i []) = omega (arith, p.to) in
      sym (some-part b table i (0, 0) has_part).0 ∙ rw (long, p.from)

  pub part-at : (q : ℕ × ℕ) → part_at q b (offsets_in b) i ≡ (q.0, offset (version_in b) (macros_in b) i + 2 + q.1)
  part-at q =
      sym (some-part b (offsets_in b) i q has_part).1
      ∙ ap (λ (x : ℕ). (q.0, x + 2 + q.1)) part-offsets.from

-- the two results of a body
module _ (b : List ℕ) (at : ℕ × ℕ) (m : ℕ) (g : Reading (List Macro)) where
  pub body-none : (r : Refusal) (q : ℕ) → g ≡ refused r → q ≡ number r → ([] ≡ body_of b (version_in b) m g) × ((at ≡ body_at at (version_in b) m g) × (q ≡ refusal_of g))
  body-none r q e f = (rw e, (rw e, rw e f))

  module _ (ms : List Macro) (rest : List ℕ) (e : g ≡ got ms rest) (p : List ℕ) (there : ℕ × ℕ) where
    pub body-some : p ≡ body_part (version_in b) b ms m → there ≡ (at.0, offset (version_in b) ms m + 2 + at.1) → (p ≡ body_of b (version_in b) m g) × ((there ≡ body_at at (version_in b) m g) × (0 ≡ refusal_of g))
    body-some f h = (rw e f, (rw e h, rw e))
