-- Brackets: what is read is what is written, and it has the form.
use Prim.Native.Nat.{ℕ, zero, suc, ◌+◌, ◌<◌}
use native.Mathlib.Omega.{arith}
use mathlib.Core.Path.{◌≡◌, refl, sym, ap, ◌∙◌}
use mathlib.Core.Logic.{⊎_elim}
use mathlib.Core.Bool.{Bool, true, false, not, ◌&&◌, ◌||◌, cond, and-false, or-false, or_comm, or-and_distrib_left}
use mathlib.Core.List.{List, [], ◌∷◌, ◌++◌, append_assoc, append-nil}
use mathlib.Core.Option.{Option, none, some}
use lib.Dec.{leb, eqb}
use lib.ListN.{length, take, drop, take-append-drop}
use borrow.Author.Tests.{lt-ltb, eqb-true, leb-true, not-true}
use Rattle.brackets.specs.Form.{Element, byte, range, class, Atom, bracket, class_name, write_element, write_elements, write_atom, opening, ends_open, formed_element, formed_elements, plain_start, formed_atom}
use Rattle.brackets.specs.Brackets.{Parsed, parsed, fault, at, same_bytes, find_class, starts_range, class_found, read_class, read_range, read_byte, read_element, read_elements, bracket_of, read_bracket}
use Rattle.brackets.proofs.Parses.{same-parsed, one-parsed, test-parsed, untest-parsed, made-parsed, more-parsed, front}
use Rattle.runs.specs.Keys.{member, is_line}
use Rattle.runs.proofs.Tests.{clash, torn, and_parts}
use Rattle.runs.proofs.KeyLaws.{line_after, line-drop, key-is, line_first}
use Rattle.brackets.proofs.Classes.{found-class}

-- Classes.

-- bytes that pass the comparison are the same
same_bytes_lem : (a b : List ℕ) → same_bytes a b ≡ true → a ≡ b
unfolding same_bytes
same_bytes_lem [] [] h = refl
same_bytes_lem [] (y ∷ b) h = clash (cc)
same_bytes_lem (x ∷ a) [] h = clash (cc)
same_bytes_lem (x ∷ a) (y ∷ b) h =
    let (one, others) = and_parts (eqb x y) (same_bytes a b) h in
    cc (eqb-true x y one, same_bytes_lem a b others)

-- a class that was read
record Class-from (l rest : List ℕ) (e : Element) : Type 0 where
  place : ℕ
  same : e ≡ class place
  known : place < 12
  there : l ≡ (class_name place ++ (58 ∷ 93 ∷ [])) ++ rest

class-from : (l rest : List ℕ) (e : Element) → read_class l ≡ parsed e rest → Class-from l rest e
class-from l rest e h = go (find_class 12 0 l) refl h
  where
    go : (o : Option ℕ) → find_class 12 0 l ≡ o → class_found o l ≡ parsed e rest → Class-from l rest e
    go none f g = clash (cc)
    go (some c) f g =
        let (less, named) = found-class l c 12 0 f in
        let n : ℕ = length (class_name c) + 2 in
        let (apart, q) = untest-parsed (starts_range (drop n l)) (parsed (class c) (drop n l)) e rest g in
        let (same, after) = same-parsed q in
        let name : take n l ≡ class_name c ++ (58 ∷ 93 ∷ []) = same_bytes_lem _ _ named in
        record { place = c; same = sym same; known = omega arith; there = rw (← name, ← after) (sym (take-append-drop n l)) }

-- Elements.

-- whether bytes begin with `[:`, and with `[.` or `[=`
abbrev class_starts : List ℕ → Bool
class_starts l = eqb (at 0 l) 91 && eqb (at 1 l) 58

abbrev other_starts : List ℕ → Bool
other_starts l = eqb (at 0 l) 91 && member (at 1 l) (46 ∷ 61 ∷ [])

-- whether they may begin an element: "A `]` as first element is itself"
abbrev may_start : Bool → List ℕ → Bool
may_start first l = first || not (eqb (at 0 l) 93)

-- whether an element ends with `[` and the bytes after it go on with `.`, `=` or `:`
abbrev pub opens : Element → List ℕ → Bool
opens e m = ends_open e && member (at 0 m) (46 ∷ 61 ∷ 58 ∷ [])

-- what an element that was read is: what the bytes begin with, and of the form
abbrev Element-from : Bool → List ℕ → Element → List ℕ → Type 0
Element-from first l e rest = (l ≡ write_element e ++ rest) × (formed_element first (eqb (at 0 rest) 93) e ≡ true) × (opens e rest ≡ false)

-- the two tests of the reader after `[` are the one of the form
open_in : (x p q r : Bool) → x && r ≡ false → x && (p || (q || false)) ≡ false → x && (p || (q || (r || false))) ≡ false
open_in false p q r h g = refl
open_in true true q r h g = g
open_in true false true r h g = g
open_in true false false r h g = rw or-false h

-- and the other way round
pub open-out : (x p q r : Bool) → x && (p || (q || (r || false))) ≡ false → (x && r ≡ false) × (x && (p || (q || false)) ≡ false)
open-out false p q r h = (refl, refl)
open-out true true q r h = clash (cc)
open-out true false true r h = clash (cc)
open-out true false false true h = clash (cc)
open-out true false false false h = (refl, refl)

-- a range that was read, by the tests that it passed
record Range-parts (first : Bool) (l rest : List ℕ) (e : Element) : Type 0 where
  dash : first || not (eqb (at 0 l) 45) ≡ true
  order : leb (at 0 l) (at 2 l) ≡ true
  apart : eqb (at 2 l) 91 && member (at 3 l) (46 ∷ 61 ∷ 58 ∷ []) ≡ false
  same : e ≡ range (at 0 l) (at 2 l)
  after : rest ≡ drop 3 l

range-parts : (first : Bool) (l rest : List ℕ) (e : Element) → read_range first l ≡ parsed e rest → Range-parts first l rest e
range-parts first l rest e p =
    let (t, q) = test-parsed _ _ e rest p in
    let (dash, others) = and_parts _ _ t in
    let (order, apart) = and_parts _ _ others in
    let (same, after) = same-parsed q in
    record { dash = dash; order = order; apart = not-true _ apart; same = sym same; after = sym after }

module _ (first : Bool) (rest : List ℕ) (e : Element) where
  -- a range that was read is what the bytes begin with, and of the form
  range-from : (l : List ℕ) → is_line l ≡ true → may_start first l ≡ true → starts_range (drop 1 l) ≡ true → read_range first l ≡ parsed e rest → Element-from first l e rest
  unfolding write_element formed_element
  range-from [] h n s p = clash (cc)
  range-from (a ∷ []) h n s p = clash (cc)
  range-from (a ∷ d ∷ []) h n s p =
      let t = range-parts first (a ∷ d ∷ []) rest e p in
      absurd (omega (arith, (key-is a (line_first a (d ∷ []) h)).0, leb-true a 0 t.order))
  range-from (a ∷ d ∷ b ∷ m) h n s p =
      let t = range-parts first (a ∷ d ∷ b ∷ m) rest e p in
      let (mid, close) = and_parts (eqb d 45) (not (eqb b 93)) s in
      rw (t.same, t.after) (
        rw (eqb-true d 45 mid),
        rw (line_first a (d ∷ b ∷ m) h, line_first b m (line-drop 2 (a ∷ d ∷ b ∷ m) h), t.order, or-and_distrib_left, n, t.dash) close,
        t.apart,
      )

  -- a byte that was read is what the bytes begin with, and of the form
  byte-from : (l : List ℕ) → is_line l ≡ true → may_start first l ≡ true → class_starts l ≡ false → other_starts l ≡ false → read_byte first l ≡ parsed e rest → Element-from first l e rest
  unfolding write_element formed_element
  byte-from [] h n r pq p = clash (cc)
  byte-from (b ∷ m) h n r pq p =
      let (t, q) = test-parsed (not (eqb b 0) && (first || (not (eqb b 45) || eqb (at 0 m) 93))) (parsed (byte b) m) e rest p in
      let (there, dash) = and_parts (not (eqb b 0)) (first || (not (eqb b 45) || eqb (at 0 m) 93)) t in
      let (same, after) = same-parsed q in
      rw (← same, ← after) (
        refl,
        rw (line_first b m h, n, or_comm (eqb (at 0 m) 93) (not (eqb b 45))) dash,
        open_in (eqb b 91) (eqb (at 0 m) 46) (eqb (at 0 m) 61) (eqb (at 0 m) 58) r pq,
      )

-- bytes that begin with `[:`
class-front : (l : List ℕ) → class_starts l ≡ true → l ≡ 91 ∷ 58 ∷ drop 2 l
class-front [] h = clash (cc)
class-front (a ∷ []) h = torn (eqb a 91 && false) h (and-false (eqb a 91))
class-front (a ∷ b ∷ l) h = let (p, q) = and_parts (eqb a 91) (eqb b 58) h in rw (eqb-true a 91 p, eqb-true b 58 q)

-- an element that was read is what the bytes begin with, and of the form
element-from : (first : Bool) (l rest : List ℕ) (e : Element) → is_line l ≡ true → may_start first l ≡ true → read_element first l ≡ parsed e rest → Element-from first l e rest
unfolding read_element write_element formed_element
element-from first l rest e h n p = ⊎_elim (λ (t, f). named t f) (λ (t, f). plain t f) (one-parsed (class_starts l) (read_class (drop 2 l)) _ e rest p)
  where
    named : class_starts l ≡ true → read_class (drop 2 l) ≡ parsed e rest → Element-from first l e rest
    named t f =
        let c = class-from (drop 2 l) rest e f in
        rw c.same (rw (← c.there) (class-front l t), lt-ltb c.place 12 c.known, refl)

    other : class_starts l ≡ false → other_starts l ≡ false → cond (starts_range (drop 1 l)) (read_range first l) (read_byte first l) ≡ parsed e rest → Element-from first l e rest
    other r pq f =
        ⊎_elim (λ (s, g). range-from first rest e l h n s g) (λ (s, g). byte-from first rest e l h n r pq g)
        (one-parsed (starts_range (drop 1 l)) (read_range first l) (read_byte first l) e rest f)

    plain : class_starts l ≡ false → cond (other_starts l) fault (cond (starts_range (drop 1 l)) (read_range first l) (read_byte first l)) ≡ parsed e rest → Element-from first l e rest
    plain r f = let (pq, g) = untest-parsed (other_starts l) _ e rest f in other r pq g

-- a bracket that ends here has no more elements
closed : (f : ℕ) (l rest : List ℕ) (es : List Element) → eqb (at 0 l) 93 ≡ true → read_elements f false l ≡ parsed es rest → (es ≡ []) × (l ≡ 93 ∷ rest)
unfolding read_elements
closed zero l rest es t p = clash (cc)
closed (suc f) l rest es t p =
    let q : ◌≡◌ {A = Parsed (List Element)} (parsed [] (drop 1 l)) (parsed es rest) = rw t at p in
    let (same, after) = same-parsed q in
    (sym same, rw (← after) (front l 93 (omega arith) t))

-- the first byte of an element's bytes
pub opening-front : (e : Element) (m : List ℕ) → at 0 (write_element e ++ m) ≡ opening e
unfolding write_element
opening-front (byte b) m = refl
opening-front (range a b) m = refl
opening-front (class c) m = refl

-- and of some elements' bytes
pub elements-front : (e : Element) (es : List Element) (m : List ℕ) → at 0 (write_elements (e ∷ es) ++ m) ≡ opening e
unfolding write_elements
elements-front e es m = rw append_assoc (opening-front e (write_elements es ++ m))

-- an element that may not end the bracket does not
pub goes_on : (first x : Bool) → first || not x ≡ true → not first && x ≡ false
goes_on true x h = refl
goes_on false x h = not-true x h

-- what elements that were read are, up to the end of the bracket
abbrev Elements-from : Bool → List ℕ → List Element → List ℕ → Type 0
Elements-from first l es rest = (l ≡ write_elements es ++ (93 ∷ rest)) × (formed_elements first es ≡ true)

-- the last element
last-from : (first : Bool) (l rest : List ℕ) (e : Element) → Element-from first l e (93 ∷ rest) → Elements-from first l (e ∷ []) rest
unfolding write_elements formed_elements
last-from first l rest e h = (rw append-nil h.0, h.1)

-- an element before others
module _ (first : Bool) (l mid rest : List ℕ) (e : Element) (h : Element-from first l e mid) where
  more-from : (es : List Element) → eqb (at 0 mid) 93 ≡ false → Elements-from false mid es rest → Elements-from first l (e ∷ es) rest
  unfolding write_elements formed_elements
  more-from [] t g = clash (cc)
  more-from (d ∷ es) t g =
      let begins : at 0 mid ≡ opening d = rw g.0 (elements-front d es (93 ∷ rest)) in
      let formed : formed_element first false e ≡ true = rw t at h.1 in
      let apart : ends_open e && member (opening d) (46 ∷ 61 ∷ 58 ∷ []) ≡ false = rw begins at h.2 in
      (rw (append_assoc (write_element e), ← g.0) h.0, rw (formed, apart) g.1)

  -- an element, whether or not it is the last
  module _ (f : ℕ) (es : List Element) (p : read_elements f false mid ≡ parsed es rest) where
    one_from : (eqb (at 0 mid) 93 ≡ false → Elements-from false mid es rest) → (t : Bool) → eqb (at 0 mid) 93 ≡ t → Elements-from first l (e ∷ es) rest
    one_from others true t =
        let (none_left, here) = closed f mid rest es t p in
        rw none_left (last-from first l rest e (rw here at h))
    one_from others false t = more-from es t (others t)

-- elements that were read, up to the end of the bracket
elements-from : (f : ℕ) (first : Bool) (l rest : List ℕ) (es : List Element) → is_line l ≡ true → may_start first l ≡ true → read_elements f first l ≡ parsed es rest → Elements-from first l es rest
unfolding read_elements
elements-from zero first l rest es h n p = clash (cc)
elements-from (suc f) first l rest es h n p =
    let all = more-parsed (read_element first l) (read_elements f false) es rest (rw (goes_on first (eqb (at 0 l) 93) n) at p) in
    let mid = all.mid in
    let this = element-from first l mid all.first h n all.one in
    let clean : is_line mid ≡ true = line_after (write_element all.first) mid (rw this.0 at h) in
    let others : eqb (at 0 mid) 93 ≡ false → Elements-from false mid all.others rest = λ t. elements-from f false mid rest all.others clean (rw t refl) all.more in
    rw all.same (one_from first l mid rest all.first this f all.others all.more others (eqb (at 0 mid) 93) refl)

-- elements that do not begin with `^`
plain-start : (l rest : List ℕ) (es : List Element) → eqb (at 0 l) 94 ≡ false → Elements-from true l es rest → plain_start es ≡ true
plain-start l rest [] t h = refl
plain-start l rest (e ∷ es) t h =
    let begins : at 0 l ≡ opening e = rw h.0 (elements-front e es (93 ∷ rest)) in
    rw (← begins, t)

-- a bracket that was read is what the bytes begin with, and of the form
pub bracket-from : (l rest : List ℕ) (a : Atom) → is_line l ≡ true → read_bracket l ≡ parsed a rest → (91 ∷ l ≡ write_atom a ++ rest) × (formed_atom a ≡ true)
unfolding read_bracket write_atom formed_atom
bracket-from l rest a h p = go (eqb (at 0 l) 94) refl p
  where
    go : (t : Bool) → eqb (at 0 l) 94 ≡ t → cond t (bracket_of (length l) true (drop 1 l)) (bracket_of (length l) false l) ≡ parsed a rest → (91 ∷ l ≡ write_atom a ++ rest) × (formed_atom a ≡ true)
    go true t q =
        let (es, same, elements) = made-parsed (read_elements (length l) true (drop 1 l)) (λ es. bracket true es) a rest q in
        let begins : l ≡ 94 ∷ drop 1 l = front l 94 (omega arith) t in
        let (all, formed) = elements-from (length l) true (drop 1 l) rest es (line-drop 1 l h) refl elements in
        rw same (ap (λ (m : List ℕ). 91 ∷ m) (begins ∙ rw (append_assoc (write_elements es) (93 ∷ []) rest) (ap (λ (m : List ℕ). 94 ∷ m) all)), formed)
    go false t q =
        let (es, same, elements) = made-parsed (read_elements (length l) true l) (λ es. bracket false es) a rest q in
        let (all, formed) = elements-from (length l) true l rest es h refl elements in
        rw same (ap (λ (m : List ℕ). 91 ∷ m) (rw (append_assoc (write_elements es) (93 ∷ []) rest) all), rw (plain-start l rest es t (all, formed)) formed)
