-- A bracket is the same whatever stands before it, and whatever bound is taken that is long enough.
use Prim.Native.Nat.{ℕ, zero, suc, ◌+◌, ◌-◌, ◌≤◌}
use native.Mathlib.Omega.{arith}
use mathlib.Core.Path.{◌≡◌, refl, sym, ap}
use mathlib.Core.Bool.{Bool, true, false, not, ◌&&◌, cond}
use mathlib.Core.List.{List, [], ◌∷◌, ◌++◌}
use lib.Dec.{eqb}
use lib.ListN.{length, drop, length-append}
use lib.Seq.{drop-append_seam}
use Rattle.letters.specs.declared.Case.{Case}
use Rattle.std.specs.Prelude.{Option, Some, None}
use Rattle.brackets.specs.declared.cursor.AtomCursor.{AtomCursor}
use Rattle.brackets.specs.Form.{Element, Atom}
use Rattle.brackets.specs.Brackets.{Parsed, parsed, fault, next, done, at, read_element, read_elements, bounded_bracket, read_bracket}
use Rattle.brackets.specs.Answers.{cursor_at, place_behind, keys_behind}
use Rattle.brackets.proofs.Taken.{elements-empty}
use Rattle.brackets.proofs.Shorter.{dropped, element-fewer, bracket-shorter}

-- with nothing left, every bound gives a fault
none-bound : (f : ℕ) (first : Bool) (l : List ℕ) → length l ≤ 0 → read_elements f first l ≡ fault
none-bound f first [] h = elements-empty f first
none-bound f first (b ∷ l) h = absurd (omega arith)

-- two bounds that are long enough read the same elements
elements-bound : (f g : ℕ) (first : Bool) (l : List ℕ) → length l ≤ f → length l ≤ g → read_elements f first l ≡ read_elements g first l
unfolding read_elements
elements-bound zero g first l h k = sym (none-bound g first l h)
elements-bound (suc f) zero first l h k = none-bound (suc f) first l k
elements-bound (suc f) (suc g) first l h k =
    ap (cond (not first && eqb (at 0 l) 93) (parsed [] (drop 1 l)))
    (go (read_element first l) refl (λ m x. elements-bound f g false m (omega arith) (omega arith)))
  where
    go : (r : Parsed Element) → read_element first l ≡ r → ((m : List ℕ) → length m ≤ length l - 1 → read_elements f false m ≡ read_elements g false m) → next r (λ e m. next (read_elements f false m) (λ es. done (e ∷ es))) ≡ next r (λ e m. next (read_elements g false m) (λ es. done (e ∷ es)))
    go (parsed e m) q same = rw (same m (element-fewer first l e m q))
    go fault q same = refl

-- and the same bracket: any bound that is long enough will do
pub bracket-bound : (l : List ℕ) (f : ℕ) → length l ≤ f → bounded_bracket f l ≡ read_bracket l
unfolding read_bracket
bracket-bound l f h =
    let less : length (drop 1 l) ≤ length l = dropped 1 l in
    let negated : read_elements f true (drop 1 l) ≡ read_elements (length l) true (drop 1 l) = elements-bound f (length l) true (drop 1 l) (omega arith) less in
    let plain : read_elements f true l ≡ read_elements (length l) true l = elements-bound f (length l) true l h (omega arith) in
    rw (negated, plain)

-- an answer n bytes further on
abbrev pub moved_by : ℕ → Option AtomCursor → Option AtomCursor
moved_by n (Some c) = Some (cursor_at (n + c.at))
moved_by n None = None

-- whatever stands before the place
module _ (before l : List ℕ) where
  here : drop (length before) (before ++ l) ≡ l
  here = drop-append_seam before l

  pub same_bracket : (f : ℕ) → length l ≤ f → bounded_bracket f (drop (length before) (before ++ l)) ≡ read_bracket l
  same_bracket f h = rw here (bracket-bound l f h)

  -- so the bracket reader's answer is as much further on as bytes stand before, and the table is the same
  pub same_end : place_behind (length (before ++ l)) (read_bracket (drop (length before) (before ++ l))) ≡ moved_by (length before) (place_behind (length l) (read_bracket l))
  same_end = rw here (go (read_bracket l) refl)
    where
      go : (a : Parsed Atom) → read_bracket l ≡ a → place_behind (length (before ++ l)) a ≡ moved_by (length before) (place_behind (length l) a)
      go (parsed a rest) e =
          let short : length rest ≤ length l = bracket-shorter l a rest e in
          let sum : length before + length l - length rest ≡ length before + (length l - length rest) = omega arith in
          rw (length-append, sum)
      go fault e = refl

  pub same_keys : (c : Case) (states : ℕ) (keys : List ℕ) → keys_behind c (read_bracket (drop (length before) (before ++ l))) states keys ≡ keys_behind c (read_bracket l) states keys
  same_keys c states keys = rw here
