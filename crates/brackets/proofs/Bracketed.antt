-- The reading of a bracket: one law for each way out of the code.
use Prim.Native.Nat.{ℕ, suc, ◌+◌, ◌-◌, ◌<◌, ◌≤◌}
use native.Mathlib.Omega.{arith}
use native.Mathlib.Nat.{add-zero}
use mathlib.Core.Path.{◌≡◌, refl, sym, ap, ◌∙◌}
use mathlib.Core.Bool.{Bool, true, false, not, ◌&&◌, cond, or-false, or_assoc}
use mathlib.Core.List.{List, [], ◌∷◌}
use lib.Dec.{eqb}
use lib.ListN.{length, get_or, drop, replicate, length-drop, drop_of_length-le}
use lib.Seq.{drop-drop}
use mir.Val.{bool_byte}
use Rattle.letters.specs.declared.Case.{Case}
use Rattle.std.specs.Prelude.{Option, Some, None}
use Rattle.brackets.specs.declared.cursor.AtomCursor.{AtomCursor}
use Rattle.brackets.specs.declared.element.Element as declared
use Rattle.brackets.specs.Form.{Element, bracket}
use Rattle.brackets.specs.Sets.{in_element, in_elements, named}
use Rattle.brackets.specs.Brackets.{Parsed, parsed, fault, next, done, read_element, read_elements, bracket_of, read_bracket}
use Rattle.brackets.specs.Promises.{with_element, with_elements, with_key, element_of, element_shown, elements_from, ElementsDone}
use Rattle.brackets.proofs.Bytes.{first-at}
use Rattle.brackets.proofs.Entries.{with-same, with-with, with_none}
use Rattle.brackets.proofs.SameBracket.{bracket-bound}
use Rattle.brackets.proofs.Stored.{named-stored, set-entry}
use Rattle.brackets.proofs.Taken.{Shown, shown-fault, shown-found, elements-empty}
use Rattle.runs.proofs.Tests.{clash}
use Rattle.brackets.specs.Answers.{cursor_at, place_behind, map_with, keys_behind}

-- one element and then others
module _ (set : List Bool) where
  elements-none : set ≡ map_with (with_elements []) 0 set
  unfolding with_elements in_elements
  elements-none = sym (with_none (with_elements []) (λ k x. or-false x) 0 set)

  elements-more : (e : Element) (es : List Element) → map_with (with_elements es) 0 (map_with (with_element e) 0 set) ≡ map_with (with_elements (e ∷ es)) 0 set
  unfolding with_elements with_element in_elements
  elements-more e es =
      with-with (with_element e) (with_elements es) 0 set
      ∙ with-same (λ k x. with_elements es k (with_element e k x)) (with_elements (e ∷ es)) (λ k x. or_assoc x (in_element k e) (in_elements k es)) 0 set

-- what is done from here is done from the start; `bound` is what the definition counts down
pub record Going (s : List ℕ) (start : ℕ) (before : List Bool) (at : ℕ) (first : Bool) (now : List Bool) : Type 0 where
  pub bound : ℕ
  pub enough : length s ≤ bound + at
  pub whole : (after : List Bool) (r : Option AtomCursor) → ElementsDone (length s) (read_elements bound first (drop at s)) now after r → ElementsDone (length s) (elements_from start s) before after r

pub going-first : (s : List ℕ) (start : ℕ) (before : List Bool) → Going s start before start true before
unfolding elements_from
going-first s start before = record { bound = length s; enough = omega arith; whole = λ after r h. h }

module _ (s : List ℕ) (start : ℕ) (before : List Bool) (p : ℕ) (first : Bool) (now : List Bool) (g : Going s start before p first now) where
  pub going_end : length s ≤ p → ElementsDone (length s) (elements_from start s) before now None
  unfolding ElementsDone
  going_end h = g.whole now None (rw (drop_of_length-le s h, elements-empty g.bound first) refl)

  module _ (low : p < length s) (b : ℕ) (q : b ≡ get_or s p 0) where
    less : g.bound ≡ suc (g.bound - 1)
    less = let h : length s ≤ g.bound + p = g.enough in omega arith

    -- one turn, and f more at the most
    abbrev Turn : ℕ → Parsed (List Element)
    Turn f =
        cond (not first && eqb b 93) (parsed [] (drop 1 (drop p s)))
        (next (read_element first (drop p s)) (λ x m. next (read_elements f false m) (λ es. done (x ∷ es))))

    turn_at : (n f : ℕ) → n ≡ suc f → read_elements n first (drop p s) ≡ Turn f
    unfolding read_elements
    turn_at n f h = rw (h, first-at s p, ← q)

    turn : read_elements g.bound first (drop p s) ≡ Turn (g.bound - 1)
    turn = turn_at g.bound (g.bound - 1) less

    pub going-closed : not first && eqb b 93 ≡ true → (d : AtomCursor) → d ≡ cursor_at (p + 1) → ElementsDone (length s) (elements_from start s) before now (Some d)
    unfolding ElementsDone
    going-closed h d e = g.whole now (Some d) (rw (turn, h) (ap Some (e ∙ rw (← place)), elements-none now))
      where
        place : p + 1 ≡ length s - length (drop 1 (drop p s))
        place = rw (length-drop 1 (drop p s), length-drop p s) (omega arith)

    module _ (h : not first && eqb b 93 ≡ false) where
      pub going-fault : None ≡ element_shown p (read_element first (drop p s)) → ElementsDone (length s) (elements_from start s) before now None
      unfolding ElementsDone
      going-fault f = g.whole now None (rw (turn, h, shown-fault first s p f) refl)

      pub going_on : (d : declared.Element) (n : AtomCursor) (after : List Bool) → Some (d, n) ≡ element_shown p (read_element first (drop p s)) → after ≡ map_with (with_element (element_of d)) 0 now → Going s start before n.at false after
      unfolding ElementsDone
      going_on d n after f m = record { bound = g.bound - 1; enough = room; whole = λ last a done. g.whole last a (rw (onward) (more (read_elements (g.bound - 1) false (drop n.at s)) last a done)) }
        where
          shown : Shown first s p d n
          shown = shown-found first s p d n f

          room : length s ≤ g.bound - 1 + n.at
          room = let w : length s ≤ g.bound + p = g.enough in let x : p < n.at = shown.further in omega arith

          onward : read_elements g.bound first (drop p s) ≡ next (read_elements (g.bound - 1) false (drop n.at s)) (λ es. done (element_of d ∷ es))
          onward = rw (turn, h, shown.parse, shown.same)

          more : (a : Parsed (List Element)) (last : List Bool) (b : Option AtomCursor) → ElementsDone (length s) a after last b → ElementsDone (length s) (next a (λ es. done (element_of d ∷ es))) now last b
          more (parsed es rest) last b (x, y) = (x, y ∙ rw m (elements-more now (element_of d) es))
          more fault last b x = x

-- a set that has the bytes of some elements
module _ (es : List Element) (s : List Bool) (negated : Bool) (e : s ≡ map_with (with_elements es) 0 (replicate 256 false)) where
  filled-set : (k : ℕ) → k < 256 → get_or s k false ≡ named (bracket negated es) k
  unfolding with_elements named
  filled-set k h = rw (e, set-entry (with_elements es) k h)

-- a set whose elements were read, or not
module _ (l : List ℕ) (start : ℕ) (s : List Bool) where
  record Gathered (end : AtomCursor) : Type 0 where
    elements : List Element
    rest : List ℕ
    parse : elements_from start l ≡ parsed elements rest
    place : Some end ≡ Some (cursor_at (length l - length rest))
    full : s ≡ map_with (with_elements elements) 0 (replicate 256 false)

  gathered : (end : AtomCursor) → ElementsDone (length l) (elements_from start l) (replicate 256 false) s (Some end) → Gathered end
  unfolding ElementsDone
  gathered end d = go (elements_from start l) refl d
    where
      go : (a : Parsed (List Element)) → elements_from start l ≡ a → ElementsDone (length l) a (replicate 256 false) s (Some end) → Gathered end
      go (parsed es rest) e (f, g) = record { elements = es; rest = rest; parse = e; place = f; full = g }
      go fault e f = clash (cc)

  not-gathered : ElementsDone (length l) (elements_from start l) (replicate 256 false) s None → elements_from start l ≡ fault
  unfolding ElementsDone
  not-gathered d = go (elements_from start l) d
    where
      go : (a : Parsed (List Element)) → ElementsDone (length l) a (replicate 256 false) s None → a ≡ fault
      go (parsed es rest) (f, g) = clash (cc)
      go fault f = refl

-- the bracket at a place: whether it is negated, the set that the elements fill, and what it puts into the table
module _ (s : List ℕ) (p b : ℕ) (e : b ≡ get_or s p 0) (start : AtomCursor) (f : start ≡ cursor_at (p + bool_byte (eqb b 94))) where
  bracket-read : read_bracket (drop p s) ≡ next (elements_from start.at s) (λ es. done (bracket (eqb b 94) es))
  unfolding elements_from
  bracket-read = sym (bracket-bound (drop p s) (length s) (rw length-drop (omega arith))) ∙ rw (first-at s p, ← e, f) (go (eqb b 94))
    where
      go : (t : Bool) → cond t (bracket_of (length s) true (drop 1 (drop p s))) (bracket_of (length s) false (drop p s)) ≡ bracket_of (length s) t (drop (p + bool_byte t) s)
      go true = rw drop-drop
      go false = rw add-zero

  module _ (set : List Bool) where
    pub read-fault : ElementsDone (length s) (elements_from start.at s) (replicate 256 false) set None → read_bracket (drop p s) ≡ fault
    read-fault d = rw (bracket-read, not-gathered s start.at set d)

    module _ (end : AtomCursor) (d : ElementsDone (length s) (elements_from start.at s) (replicate 256 false) set (Some end)) where
      fill : Gathered s start.at set end
      fill = gathered s start.at set end d

      pub read-place : Some end ≡ place_behind (length s) (read_bracket (drop p s))
      read-place = rw (bracket-read, fill.parse) fill.place

      pub read_table : (case : Case) (states : ℕ) (before after : List ℕ) → after ≡ map_with (with_key case set (eqb b 94) states) 0 before → after ≡ keys_behind case (read_bracket (drop p s)) states before
      read_table case states before after g =
          rw (bracket-read, fill.parse) (g ∙ named-stored case (bracket (eqb b 94) fill.elements) set (filled-set fill.elements set (eqb b 94) fill.full) states before)
