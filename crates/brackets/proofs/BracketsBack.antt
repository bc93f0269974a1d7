-- Brackets: what is written of one that has the form is read again.
use Prim.Native.Nat.{ℕ, zero, suc, ◌+◌, ◌<◌, ◌≤◌}
use native.Mathlib.Omega.{arith}
use mathlib.Core.Path.{◌≡◌, refl}
use mathlib.Core.Bool.{Bool, true, false, not, ◌&&◌, ◌||◌, cond, and-false, or_comm, or-and_distrib_left}
use mathlib.Core.List.{List, [], ◌∷◌, ◌++◌, append_assoc, append-nil}
use mathlib.Core.Option.{some}
use lib.Dec.{leb, eqb}
use lib.ListN.{length, drop, length-append}
use lib.Seq.{drop_at}
use borrow.Author.Tests.{ltb-true, not-true}
use Rattle.brackets.specs.Form.{Element, byte, range, class, bracket, class_name, write_element, write_elements, write_atom, opening, ends_open, formed_element, adjacent, formed_elements, plain_start, formed_atom}
use Rattle.brackets.specs.Brackets.{parsed, at, find_class, starts_range, read_element, read_elements, read_bracket}
use Rattle.brackets.proofs.ClassTables.{class_back, name-clean}
use Rattle.brackets.proofs.BracketsFrom.{opens, open-out, opening-front, elements-front, goes_on}
use Rattle.runs.specs.Keys.{member, line_key, is_line}
use Rattle.runs.proofs.Tests.{clash, and_parts}
use Rattle.runs.proofs.KeyLaws.{line-append, key-is, line-cons}

-- the parts of a byte's form
record ByteForm (first last : Bool) (b : ℕ) : Type 0 where
  key : line_key b ≡ true
  close : first || not (eqb b 93) ≡ true
  dash : first || (last || not (eqb b 45)) ≡ true

byte-form : (first last : Bool) (b : ℕ) → formed_element first last (byte b) ≡ true → ByteForm first last b
unfolding formed_element
byte-form first last b h =
    let (key, others) = and_parts _ _ h in
    let (close, dash) = and_parts _ _ others in
    record { key = key; close = close; dash = dash }

-- and of a range's
record RangeForm (first : Bool) (a b : ℕ) : Type 0 where
  low-key : line_key a ≡ true
  high-key : line_key b ≡ true
  order : leb a b ≡ true
  close : first || not (eqb a 93) ≡ true
  dash : first || not (eqb a 45) ≡ true
  end-not : not (eqb b 93) ≡ true

range-form : (first last : Bool) (a b : ℕ) → formed_element first last (range a b) ≡ true → RangeForm first a b
unfolding formed_element
range-form first last a b h =
    let (keys, others) = and_parts (line_key a && line_key b) _ h in
    let (low-key, high-key) = and_parts (line_key a) (line_key b) keys in
    let (order, ends) = and_parts _ _ others in
    let (starts, end-not) = and_parts (first || (not (eqb a 93) && not (eqb a 45))) _ ends in
    let (close, dash) = and_parts _ _ (rw or-and_distrib_left at starts) in
    record { low-key = low-key; high-key = high-key; order = order; close = close; dash = dash; end-not = end-not }

-- an element of the form is read again, where the bytes after it start no range
module _ (first : Bool) (m : List ℕ) (s : starts_range m ≡ false) where
  element-back : (e : Element) → formed_element first (eqb (at 0 m) 93) e ≡ true → opens e m ≡ false → read_element first (write_element e ++ m) ≡ parsed e m
  unfolding read_element write_element formed_element
  element-back (byte b) h o =
      let (r, pq) = open-out (eqb b 91) (eqb (at 0 m) 46) (eqb (at 0 m) 61) (eqb (at 0 m) 58) o in
      let form = byte-form first (eqb (at 0 m) 93) b h in
      let there : eqb b 0 ≡ false = (key-is b form.key).2 in
      let order : first || (not (eqb b 45) || eqb (at 0 m) 93) ≡ true = rw (or_comm (eqb (at 0 m) 93) (not (eqb b 45))) at form.dash in
      rw (r, pq, s, there, order)
  element-back (range a b) h o =
      let form = range-form first (eqb (at 0 m) 93) a b h in
      rw (and-false (eqb a 91), form.end-not, form.dash, form.order, o)
  element-back (class c) h o =
      let name : List ℕ = class_name c ++ (58 ∷ 93 ∷ []) in
      let long : length name ≡ length (class_name c) + 2 = length-append (class_name c) (58 ∷ 93 ∷ []) in
      let found : find_class 12 0 (name ++ m) ≡ some c = rw append_assoc (class_back c m (ltb-true c 12 h)) in
      rw (found, drop_at name m (length (class_name c) + 2) long, s)

-- an element of the form ends no bracket, unless it is the first
not-close : (first last : Bool) (e : Element) → formed_element first last e ≡ true → not first && eqb (opening e) 93 ≡ false
not-close first last (byte b) h = goes_on first (eqb b 93) (byte-form first last b h).close
not-close first last (range a b) h = goes_on first (eqb a 93) (range-form first last a b h).close
not-close first last (class c) h = and-false (not first)

-- and it begins with no `-`, unless it is the first or the last
no-dash : (e : Element) → formed_element false false e ≡ true → eqb (opening e) 45 ≡ false
no-dash (byte b) h = not-true _ (byte-form false false b h).dash
no-dash (range a b) h = not-true _ (range-form false false a b h).dash
no-dash (class c) h = refl

-- so it starts no range for the one before it
no-range : (es : List Element) (rest : List ℕ) → formed_elements false es ≡ true → starts_range (write_elements es ++ (93 ∷ rest)) ≡ false
unfolding formed_elements write_elements write_element
no-range [] rest h = refl
no-range (byte b ∷ []) rest h = and-false (eqb b 45)
no-range (range a b ∷ []) rest h = rw (not-true (eqb a 45) (range-form false true a b h).dash)
no-range (class c ∷ []) rest h = refl
no-range (e ∷ d ∷ es) rest h =
    let (one, others) = and_parts (formed_element false false e) (adjacent e d && formed_elements false (d ∷ es)) h in
    let begins : eqb (at 0 (write_elements (e ∷ d ∷ es) ++ (93 ∷ rest))) 45 ≡ false = rw (elements-front e (d ∷ es) (93 ∷ rest)) (no-dash e one) in
    rw begins

-- an element and then others are read again
module _ (f : ℕ) (first last : Bool) (e : Element) (m : List ℕ) (h : formed_element first last e ≡ true) (one : read_element first (write_element e ++ m) ≡ parsed e m) where
  step_back : (es : List Element) (rest : List ℕ) → read_elements f false m ≡ parsed es rest → read_elements (suc f) first (write_element e ++ m) ≡ parsed (e ∷ es) rest
  unfolding read_elements
  step_back es rest others =
      let on : not first && eqb (at 0 (write_element e ++ m)) 93 ≡ false = rw (opening-front e m) (not-close first last e h) in
      rw (on, one, others)

-- the first of some elements of the form has the form
first-formed : (first : Bool) (e : Element) (es : List Element) → formed_elements first (e ∷ es) ≡ true → (last : Bool) × (formed_element first last e ≡ true)
unfolding formed_elements
first-formed first e [] h = (true, h)
first-formed first e (d ∷ es) h = (false, (and_parts _ _ h).0)

-- an element and then others of the form are read again
module _ (first : Bool) (e d : Element) (es : List Element) (h : formed_elements first (e ∷ d ∷ es) ≡ true) (m rest : List ℕ) (same : m ≡ write_elements (d ∷ es) ++ (93 ∷ rest)) where
  more-back : (f : ℕ) → read_elements f false m ≡ parsed (d ∷ es) rest → read_elements (suc f) first (write_element e ++ m) ≡ parsed (e ∷ d ∷ es) rest
  unfolding formed_elements
  more-back f others =
      let (one, t) = and_parts (formed_element first false e) (adjacent e d && formed_elements false (d ∷ es)) h in
      let (meet, after) = and_parts (adjacent e d) (formed_elements false (d ∷ es)) t in
      let (last, next_one) = first-formed false d es after in
      let begins : at 0 m ≡ opening d = rw same (elements-front d es (93 ∷ rest)) in
      let on : eqb (at 0 m) 93 ≡ false = rw begins (not-close false last d next_one) in
      let apart : opens e m ≡ false = rw begins (not-true (ends_open e && member (opening d) (46 ∷ 61 ∷ 58 ∷ [])) meet) in
      let range-not : starts_range m ≡ false = rw same (no-range (d ∷ es) rest after) in
      step_back f first false e m one (element-back first m range-not e (rw on one) apart) (d ∷ es) rest others

-- elements of the form are read again, up to the end of the bracket
elements-back : (f : ℕ) (first : Bool) (es : List Element) (rest : List ℕ) → formed_elements first es ≡ true → length es < f → read_elements f first (write_elements es ++ (93 ∷ rest)) ≡ parsed es rest
unfolding formed_elements write_elements read_elements
elements-back zero first es rest h l = absurd (omega arith)
elements-back (suc f) first [] rest h l = clash (cc)
elements-back (suc zero) first (e ∷ []) rest h l = absurd (omega arith)
elements-back (suc (suc f)) first (e ∷ []) rest h l =
    let one = element-back first (93 ∷ rest) refl e h (and-false (ends_open e)) in
    rw append-nil (step_back (suc f) first true e (93 ∷ rest) h one [] rest refl)
elements-back (suc f) first (e ∷ d ∷ es) rest h l =
    let after = (and_parts (adjacent e d) (formed_elements false (d ∷ es)) (and_parts (formed_element first false e) (adjacent e d && formed_elements false (d ∷ es)) h).1).1 in
    rw (append_assoc (write_element e) (write_elements (d ∷ es)) (93 ∷ rest))
    (more-back first e d es h (write_elements (d ∷ es) ++ (93 ∷ rest)) rest refl f (elements-back f false (d ∷ es) rest after (omega arith)))

-- an element has a byte
element-long : (e : Element) → 1 ≤ length (write_element e)
unfolding write_element
element-long (byte b) = omega arith
element-long (range a b) = omega arith
element-long (class c) = omega arith

-- so there are no more elements than bytes
elements-long : (es : List Element) → length es ≤ length (write_elements es)
unfolding write_elements
elements-long [] = omega arith
elements-long (e ∷ es) = rw length-append (omega (arith, element-long e, elements-long es))

-- the bytes up to the end of a bracket are more than its elements
closed-long : (es : List Element) (rest : List ℕ) → length es < length (write_elements es ++ (93 ∷ rest))
closed-long es rest = rw length-append (omega (arith, elements-long es))

-- a bracket of the form is read again
inside_back : (n : Bool) (es : List Element) (rest : List ℕ) → formed_atom (bracket n es) ≡ true → read_bracket (cond n (94 ∷ []) [] ++ (write_elements es ++ (93 ∷ rest))) ≡ parsed (bracket n es) rest
unfolding read_bracket formed_atom formed_elements
inside_back true es rest h = rw (elements-back (suc (length (write_elements es ++ (93 ∷ rest)))) true es rest h (omega (arith, closed-long es rest)))
inside_back false [] rest h = clash (cc)
inside_back false (e ∷ es) rest h =
    let (start, formed) = and_parts (not (eqb (opening e) 94)) (formed_elements true (e ∷ es)) h in
    let begins : eqb (at 0 (write_elements (e ∷ es) ++ (93 ∷ rest))) 94 ≡ false = rw (elements-front e es (93 ∷ rest)) (not-true (eqb (opening e) 94) start) in
    rw (begins, elements-back (length (write_elements (e ∷ es) ++ (93 ∷ rest))) true (e ∷ es) rest formed (closed-long (e ∷ es) rest))

-- and so for the bytes of the whole atom after its `[`
pub bracket-back : (n : Bool) (es : List Element) (rest : List ℕ) → formed_atom (bracket n es) ≡ true → read_bracket (drop 1 (write_atom (bracket n es) ++ rest)) ≡ parsed (bracket n es) rest
unfolding write_atom
bracket-back n es rest h =
    rw (append_assoc (cond n (94 ∷ []) []) (write_elements es ++ (93 ∷ [])) rest, append_assoc (write_elements es) (93 ∷ []) rest)
    (inside_back n es rest h)

-- an element of the form is written as bytes of a pattern
element-clean : (first last : Bool) (e : Element) → formed_element first last e ≡ true → is_line (write_element e) ≡ true
unfolding write_element formed_element
element-clean first last (byte b) h = line-cons b [] (byte-form first last b h).key refl
element-clean first last (range a b) h = line-cons a (45 ∷ b ∷ []) (range-form first last a b h).low-key (line-cons b [] (range-form first last a b h).high-key refl)
element-clean first last (class c) h = line-append (class_name c) (58 ∷ 93 ∷ []) (name-clean c (ltb-true c 12 h)) refl

-- and so are elements of the form
elements-clean : (first : Bool) (es : List Element) → formed_elements first es ≡ true → is_line (write_elements es) ≡ true
unfolding write_elements formed_elements
elements-clean first [] h = refl
elements-clean first (e ∷ []) h = line-append (write_element e) [] (element-clean first true e h) refl
elements-clean first (e ∷ d ∷ es) h =
    let (one, t) = and_parts (formed_element first false e) (adjacent e d && formed_elements false (d ∷ es)) h in
    let (meet, others) = and_parts (adjacent e d) (formed_elements false (d ∷ es)) t in
    line-append (write_element e) (write_elements (d ∷ es)) (element-clean first false e one) (elements-clean false (d ∷ es) others)

-- and so is a bracket of the form
pub bracket-clean : (n : Bool) (es : List Element) → formed_atom (bracket n es) ≡ true → is_line (write_atom (bracket n es)) ≡ true
unfolding write_atom formed_atom
bracket-clean n es h =
    let formed : formed_elements true es ≡ true = (and_parts (n || plain_start es) (formed_elements true es) h).1 in
    go n (line-append (write_elements es) (93 ∷ []) (elements-clean true es formed) refl)
  where
    go : (t : Bool) → is_line (write_elements es ++ (93 ∷ [])) ≡ true → is_line (cond t (94 ∷ []) [] ++ (write_elements es ++ (93 ∷ []))) ≡ true
    go true h = h
    go false h = h
