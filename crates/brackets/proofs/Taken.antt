-- What the reading of an element takes from the bytes, and what its answer shows.
use Prim.Native.Nat.{ℕ, zero, suc, ◌+◌, ◌-◌, ◌<◌}
use native.Mathlib.Omega.{arith}
use mathlib.Core.Path.{◌≡◌, refl, sym, ap, ◌∙◌}
use mathlib.Core.Bool.{Bool, true, false, not, ◌&&◌, ◌||◌, cond, and-false}
use mathlib.Core.List.{List, [], ◌∷◌}
use mathlib.Core.Option as math
use Rattle.std.specs.Prelude.{Some, None}
use lib.Dec.{leb, eqb}
use lib.ListN.{length, drop, length-append}
use lib.Seq.{drop-drop}
use Rattle.brackets.specs.declared.cursor.AtomCursor.{AtomCursor}
use Rattle.brackets.specs.declared.element.Element as declared
use Rattle.brackets.specs.Form.{Element, byte, range, class, class_name, write_element}
use Rattle.brackets.specs.Brackets.{Parsed, parsed, fault, at, find_class, class_found, starts_range, read_element, read_elements}
use Rattle.brackets.specs.Answers.{cursor_at}
use Rattle.brackets.specs.Promises.{shown_element, element_of, element_shown, Known}
use Rattle.brackets.proofs.Parses.{same-parsed}
use Rattle.brackets.proofs.Classes.{found-class}
use Rattle.runs.specs.Keys.{member}
use Rattle.runs.proofs.Tests.{clash}
use Rattle.std.proofs.lemmas.Option.{some_pair_parts}

-- an element takes the bytes that it is written as, and a class is one of the twelve
pub record Taken (l : List ℕ) (e : Element) (rest : List ℕ) : Type 0 where
  pub left : rest ≡ drop (length (write_element e)) l
  pub some_bytes : 0 < length (write_element e)
  pub known : Known e

data Sound (l : List ℕ) : Parsed Element → Type 0 where
  read : {e : Element} {rest : List ℕ} → Taken l e rest → Sound l (parsed e rest)
  refused : Sound l fault

module _ (l : List ℕ) where
  -- either way of a test
  either : (t : Bool) {p q : Parsed Element} → Sound l p → Sound l q → Sound l (cond t p q)
  either true g h = g
  either false g h = h

  byte-sound : (b : ℕ) → Sound l (parsed (byte b) (drop 1 l))
  unfolding write_element
  byte-sound b = read {e = byte b} (record { left = refl; some_bytes = omega arith; known = tt })

  range-sound : (a b : ℕ) → Sound l (parsed (range a b) (drop 3 l))
  unfolding write_element
  range-sound a b = read {e = range a b} (record { left = refl; some_bytes = omega arith; known = tt })

  class-size : (c : ℕ) → length (write_element (class c)) ≡ 2 + (length (class_name c) + 2)
  unfolding write_element
  class-size c = rw length-append (omega arith)

  class-sound : (o : math.Option ℕ) → find_class 12 0 (drop 2 l) ≡ o → Sound l (class_found o (drop 2 l))
  class-sound math.none e = refused
  class-sound (math.some c) e =
      either (starts_range (drop (length (class_name c) + 2) (drop 2 l))) refused
      (read (record { left = rw (class-size c, drop-drop); some_bytes = rw (class-size c) (omega arith); known = (found-class (drop 2 l) c 12 0 e).0 }))

  element-sound : (first : Bool) → Sound l (read_element first l)
  unfolding read_element
  element-sound first =
      either (eqb (at 0 l) 91 && eqb (at 1 l) 58) (class-sound (find_class 12 0 (drop 2 l)) refl)
      (either (eqb (at 0 l) 91 && member (at 1 l) (46 ∷ 61 ∷ [])) refused
      (either (starts_range (drop 1 l))
      (either ((first || not (eqb (at 0 l) 45)) && (leb (at 0 l) (at 2 l) && not (eqb (at 2 l) 91 && member (at 3 l) (46 ∷ 61 ∷ 58 ∷ [])))) (range-sound (at 0 l) (at 2 l)) refused)
      (either (not (eqb (at 0 l) 0) && (first || (not (eqb (at 0 l) 45) || eqb (at 1 l) 93))) (byte-sound (at 0 l)) refused)))

  pub element-taken : (first : Bool) (e : Element) (rest : List ℕ) → read_element first l ≡ parsed e rest → Taken l e rest
  element-taken first e rest h = go (read_element first l) (element-sound first) h
    where
      go : (r : Parsed Element) → Sound l r → r ≡ parsed e rest → Taken l e rest
      go (parsed d q) (read t) h = let (f, g) = same-parsed h in rw (← f, ← g) t
      go fault refused h = clash (cc)

-- an element as the code has it
shown-back : (e : Element) → element_of (shown_element e) ≡ e
shown-back (byte b) = refl
shown-back (range a b) = refl
shown-back (class c) = refl

-- the answer that an element was found, and that none was
pub record Shown (first : Bool) (s : List ℕ) (p : ℕ) (d : declared.Element) (next : AtomCursor) : Type 0 where
  pub rest : List ℕ
  pub parse : read_element first (drop p s) ≡ parsed (element_of d) rest
  pub same : rest ≡ drop next.at s
  pub further : p < next.at
  pub known : Known (element_of d)

module _ (first : Bool) (s : List ℕ) (p : ℕ) where
  pub shown-fault : None ≡ element_shown p (read_element first (drop p s)) → read_element first (drop p s) ≡ fault
  shown-fault e = go (read_element first (drop p s)) (sym e)
    where
      go : (a : Parsed Element) → element_shown p a ≡ None → a ≡ fault
      go (parsed x rest) f = clash (cc)
      go fault f = refl

  module _ (d : declared.Element) (next : AtomCursor) (e : Some (d, next) ≡ element_shown p (read_element first (drop p s))) where
    pub shown-found : Shown first s p d next
    shown-found = go (read_element first (drop p s)) refl (sym e)
      where
        go : (a : Parsed Element) → read_element first (drop p s) ≡ a → element_shown p a ≡ Some (d, next) → Shown first s p d next
        go fault g f = clash (cc)
        go (parsed x rest) g f =
            let t = element-taken (drop p s) first x rest g in
            let (same, behind) = some_pair_parts (shown_element x) d (cursor_at (p + length (write_element x))) next f in
            let m : p + length (write_element x) ≡ next.at = ap (λ (c : AtomCursor). c.at) behind in
            let b : x ≡ element_of d = sym (shown-back x) ∙ ap element_of same in
            record { rest = rest; parse = g ∙ rw b; same = t.left ∙ rw (drop-drop, m); further = let h : 0 < length (write_element x) = t.some_bytes in omega arith; known = rw b at t.known }

    pub found-known : Known (element_of d)
    found-known = shown-found.known

    pub found-less : p < length s → length s - next.at < length s - p
    found-less h = let g : p < next.at = shown-found.further in omega arith

-- nothing can be read where nothing is
none_read : (first : Bool) → read_element first [] ≡ fault
unfolding read_element
none_read first = refl

pub elements-empty : (f : ℕ) (first : Bool) → read_elements f first [] ≡ fault
unfolding read_elements
elements-empty zero first = refl
elements-empty (suc f) first = rw (and-false, none_read first)
