-- What is left behind an element is shorter than what it was read from, and behind a bracket no longer.
use Prim.Native.Nat.{ℕ, zero, suc, ◌-◌, ◌<◌, ◌≤◌}
use native.Mathlib.Omega.{arith}
use mathlib.Core.Path.{◌≡◌, refl}
use mathlib.Core.Bool.{Bool, true, false, not, ◌&&◌, cond}
use mathlib.Core.List.{List}
use lib.Dec.{eqb}
use lib.ListN.{length, drop, length-drop}
use Rattle.brackets.specs.Form.{Element, Atom, write_element}
use Rattle.brackets.specs.Brackets.{Parsed, Parser, parsed, fault, next, at, read_element, read_elements, read_bracket}
use Rattle.brackets.proofs.Taken.{element-taken}
use Rattle.runs.proofs.Tests.{clash}

data Shorter {A : Type 0} (n : ℕ) : Parsed A → Type 0 where
  read : {a : A} {rest : List ℕ} → length rest ≤ n → Shorter n (parsed a rest)
  refused : Shorter n fault

module _ {A : Type 0} {n : ℕ} where
  either : (t : Bool) {p q : Parsed A} → Shorter n p → Shorter n q → Shorter n (cond t p q)
  either true g h = g
  either false g h = h

  -- one reading after another
  followed : {B : Type 0} {m : ℕ} {g : Parsed B} {f : B → Parser A} → Shorter m g → ((b : B) (l : List ℕ) → length l ≤ m → Shorter n (f b l)) → Shorter n (next g f)
  followed (read {a = b} {rest = l} h) k = k b l h
  followed refused k = refused

  more : {p : Parsed A} {m : ℕ} → m ≤ n → Shorter m p → Shorter n p
  more l (read {rest = r} h) = read {rest = r} (omega arith)
  more l refused = refused

-- some bytes fewer
pub dropped : (k : ℕ) (l : List ℕ) → length (drop k l) ≤ length l
dropped k l = rw length-drop (omega arith)

-- an element has a byte or more
pub element-fewer : (first : Bool) (l : List ℕ) (e : Element) (rest : List ℕ) → read_element first l ≡ parsed e rest → length rest ≤ length l - 1
element-fewer first l e rest h =
    let t = element-taken l first e rest h in
    let some : 0 < length (write_element e) = t.some_bytes in
    rw (t.left, length-drop) (omega arith)

element-shorter : (first : Bool) (l : List ℕ) → Shorter (length l) (read_element first l)
element-shorter first l = go (read_element first l) refl
  where
    go : (r : Parsed Element) → read_element first l ≡ r → Shorter (length l) r
    go (parsed e rest) h = let left : length rest ≤ length l - 1 = element-fewer first l e rest h in read {rest = rest} (omega arith)
    go fault h = refused

elements-shorter : (f : ℕ) (first : Bool) (l : List ℕ) → Shorter (length l) (read_elements f first l)
unfolding read_elements
elements-shorter zero first l = refused
elements-shorter (suc f) first l =
    either (not first && eqb (at 0 l) 93) (read (dropped 1 l))
    (followed (element-shorter first l) (λ e m h. followed (more h (elements-shorter f false m)) (λ es rest k. read k)))

bracket-short : (l : List ℕ) → Shorter (length l) (read_bracket l)
unfolding read_bracket
bracket-short l =
    either (eqb (at 0 l) 94)
    (followed (more (dropped 1 l) (elements-shorter (length l) true (drop 1 l))) (λ es rest h. read h))
    (followed (elements-shorter (length l) true l) (λ es rest h. read h))

pub bracket-shorter : (l : List ℕ) (a : Atom) (rest : List ℕ) → read_bracket l ≡ parsed a rest → length rest ≤ length l
bracket-shorter l a rest e = go (read_bracket l) (bracket-short l) e
  where
    go : (r : Parsed Atom) → Shorter (length l) r → r ≡ parsed a rest → length rest ≤ length l
    go (parsed b q) (read h) g = let f : q ≡ rest = cc in rw (← f) h
    go fault refused g = clash (cc)
