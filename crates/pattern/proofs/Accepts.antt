-- Document 01, "Patterns": what is accepted and what is refused. A pattern is accepted exactly if it is written of a tree of the form, of 1 to 128 bytes and at most 29 atoms.
use Prim.Native.Nat.{ℕ, ◌<◌, ◌≤◌}
use native.Mathlib.Omega.{arith}
use mathlib.Core.Path.{◌≡◌, refl, sym, ap, ◌∙◌}
use mathlib.Core.Logic.{◌↔◌, ◌⊎◌, inl, inr, ⊎_elim}
use mathlib.Core.Bool.{Bool, true, false, cond}
use mathlib.Core.List.{List, []}
use lib.Dec.{leb}
use lib.ListN.{length, take}
use lib.Seq.{take_all, length-take-le}
use borrow.Author.Tests.{leb-true, leb-false, le-leb, lt-leb}
use Rattle.refusal.specs.declared.Refusal.{Refusal}
use Rattle.refusal.specs.Number.{number}
use Rattle.refusal.specs.declared.Refusal.TheVariants.{PatternLength, PatternSyntax, TooManyAtoms}
use Rattle.brackets.specs.Brackets.{Parsed, parsed, fault}
use Rattle.pattern.specs.Reader.{read_branches, accepted, refused, counted, read_pattern}
use Rattle.pattern.proofs.Branches.{branches-from, pattern-back, pattern-clean}
use Rattle.pattern.specs.Form.{Pattern, write_pattern, formed_pattern, atom_count}
use Rattle.runs.specs.Keys.{is_line}
use Rattle.runs.proofs.Tests.{clash}

-- two trees of the form that are written the same are the same
pub one-tree : (t u : Pattern) → formed_pattern t ≡ true → formed_pattern u ≡ true → write_pattern t ≡ write_pattern u → t ≡ u
one-tree t u h g e = cc (pattern-back t h, pattern-back u g)

-- what is read of the bytes of a tree of the form
read_back : (t : Pattern) → formed_pattern t ≡ true → 1 ≤ length (write_pattern t) → length (write_pattern t) ≤ 128 → read_pattern (write_pattern t) ≡ counted (parsed t [])
unfolding read_pattern
read_back t h low high =
    let clean = pattern-clean t h in
    rw (le-leb 1 (length (write_pattern t)) low, le-leb (length (write_pattern t)) 128 high, clean, pattern-back t h)

-- the bytes of a tree of the form that keep the limits are accepted with that tree
pub accepted-back : (t : Pattern) → formed_pattern t ≡ true → 1 ≤ length (write_pattern t) → length (write_pattern t) ≤ 128 → atom_count t ≤ 29 → read_pattern (write_pattern t) ≡ accepted t
accepted-back t h low high few = rw (read_back t h low high, le-leb (atom_count t) 29 few)

-- what can be the matter with some bytes
data Finding (p : List ℕ) : Type 0 where
  -- no tree of the form is written so
  bad : ((t : Pattern) → formed_pattern t ≡ true → write_pattern t ≡ p → ⊥) → read_pattern p ≡ refused PatternSyntax → Finding p
  -- a tree is, but it has too many atoms
  many : (t : Pattern) → formed_pattern t ≡ true → write_pattern t ≡ p → 29 < atom_count t → read_pattern p ≡ refused TooManyAtoms → Finding p
  -- a tree is, and its atoms are few enough
  fine : (t : Pattern) → formed_pattern t ≡ true → write_pattern t ≡ p → atom_count t ≤ 29 → read_pattern p ≡ accepted t → Finding p

-- the length is wrong, which is refused, or right
lengths : (p : List ℕ) → (((length p ≡ 0) ⊎ (128 < length p)) × (read_pattern p ≡ refused PatternLength)) ⊎ ((1 ≤ length p) × (length p ≤ 128))
unfolding read_pattern
lengths p = go (leb 1 (length p)) (leb (length p) 128) refl refl
  where
    go : (x y : Bool) → leb 1 (length p) ≡ x → leb (length p) 128 ≡ y → (((length p ≡ 0) ⊎ (128 < length p)) × (read_pattern p ≡ refused PatternLength)) ⊎ ((1 ≤ length p) × (length p ≤ 128))
    go false y low high = inl (inl (omega (arith, leb-false 1 (length p) low)), rw low)
    go true false low high = inl (inr (leb-false (length p) 128 high), rw (low, high))
    go true true low high = inr (leb-true 1 (length p) low, leb-true (length p) 128 high)

-- bytes of a tree of the form, as they are read
tree-read : (p : List ℕ) (t : Pattern) → 1 ≤ length p → length p ≤ 128 → formed_pattern t ≡ true → write_pattern t ≡ p → read_pattern p ≡ cond (leb (atom_count t) 29) (accepted t) (refused TooManyAtoms)
tree-read p t low high h w = rw (← w) (read_back t h (rw w low) (rw w high))

-- so such bytes are not refused for their form
not-bad : (p : List ℕ) (t : Pattern) → 1 ≤ length p → length p ≤ 128 → formed_pattern t ≡ true → write_pattern t ≡ p → read_pattern p ≡ refused PatternSyntax → ⊥
not-bad p t low high h w e = go (leb (atom_count t) 29) (tree-read p t low high h w)
  where
    go : (b : Bool) → read_pattern p ≡ cond b (accepted t) (refused TooManyAtoms) → ⊥
    go true f = clash (cc)
    go false f = clash (cc)

-- bytes of a tree of the form have a verdict by its atoms
tree-verdict : (p : List ℕ) (t : Pattern) → 1 ≤ length p → length p ≤ 128 → formed_pattern t ≡ true → write_pattern t ≡ p → Finding p
tree-verdict p t low high h w = go (leb (atom_count t) 29) refl
  where
    go : (b : Bool) → leb (atom_count t) 29 ≡ b → Finding p
    go true e = fine t h w (leb-true (atom_count t) 29 e) (rw e at (tree-read p t low high h w))
    go false e = many t h w (leb-false (atom_count t) 29 e) (rw e at (tree-read p t low high h w))

-- and so have all bytes of the right length
verdict : (p : List ℕ) → 1 ≤ length p → length p ≤ 128 → Finding p
unfolding read_pattern
verdict p low high = go (is_line p) refl
  where
    is-bad : read_pattern p ≡ refused PatternSyntax → Finding p
    is-bad e = bad (λ t g w. not-bad p t low high g w e) e

    of-parsed : is_line p ≡ true → (r : Parsed Pattern) → read_branches (length p) p ≡ r → Finding p
    of-parsed clean (parsed t rest) q = let (w, g) = branches-from (length p) p rest t clean q in tree-verdict p t low high g w
    of-parsed clean fault q = is-bad (rw (le-leb 1 (length p) low, le-leb (length p) 128 high, clean, q))

    go : (b : Bool) → is_line p ≡ b → Finding p
    go true e = of-parsed e (read_branches (length p) p) refl
    go false e = is-bad (rw (le-leb 1 (length p) low, le-leb (length p) 128 high, e))

-- "1 to 128 bytes"
abbrev pub RightLength : List ℕ → Type 0
RightLength p = (1 ≤ length p) × (length p ≤ 128)

-- the tree has the form and is written so
abbrev pub WritesAs : Pattern → List ℕ → Type 0
WritesAs t p = (formed_pattern t ≡ true) × (write_pattern t ≡ p)

-- what is not refused for its length has the right one
right-length : (p : List ℕ) → (read_pattern p ≡ refused PatternLength → ⊥) → RightLength p
right-length p h = ⊎_elim (λ (wrong, e). absurd (h e)) (λ right. right) (lengths p)

-- an accepted pattern is written of its tree, which has the form, and keeps the limits
pub accepted-from : (p : List ℕ) (t : Pattern) → read_pattern p ≡ accepted t → WritesAs t p × RightLength p × (atom_count t ≤ 29)
accepted-from p t e =
    let (low, high) = right-length p (λ f. clash (cc)) in
    go low high (verdict p low high)
  where
    go : 1 ≤ length p → length p ≤ 128 → Finding p → WritesAs t p × RightLength p × (atom_count t ≤ 29)
    go low high (bad none_of f) = clash (cc)
    go low high (many u g w over f) = clash (cc)
    go low high (fine u g w few f) = let same : t ≡ u = cc in rw same ((g, w), (low, high), few)

-- a pattern is accepted with a tree exactly if it is written of the tree, which has the form, and keeps the limits
pub accepted-iff : (p : List ℕ) (t : Pattern) → (read_pattern p ≡ accepted t) ↔ (WritesAs t p × RightLength p × (atom_count t ≤ 29))
accepted-iff p t = (λ e. accepted-from p t e, λ ((g, w), (low, high), few). rw (← w) (accepted-back t g (rw w low) (rw w high) few))

-- what is counted is not refused for its length
counted-other : (b : Bool) (r : Parsed Pattern) → cond b (counted r) (refused PatternSyntax) ≡ refused PatternLength → ⊥
counted-other false r e = clash (cc)
counted-other true (parsed t l) e = go (leb (atom_count t) 29) e
  where
    go : (c : Bool) → cond c (accepted t) (refused TooManyAtoms) ≡ refused PatternLength → ⊥
    go true f = clash (cc)
    go false f = clash (cc)
counted-other true fault e = clash (cc)

-- 7: "0 or over 128"
pub refused-length : (p : List ℕ) → (read_pattern p ≡ refused PatternLength) ↔ ((length p ≡ 0) ⊎ (128 < length p))
unfolding read_pattern
refused-length p = (from, back)
  where
    from : read_pattern p ≡ refused PatternLength → (length p ≡ 0) ⊎ (128 < length p)
    from e = ⊎_elim (λ (wrong, f). wrong) (λ (low, high). absurd (counted-other (is_line p) (read_branches (length p) p) (rw (le-leb 1 (length p) low, le-leb (length p) 128 high) at e))) (lengths p)

    back : (length p ≡ 0) ⊎ (128 < length p) → read_pattern p ≡ refused PatternLength
    back w = ⊎_elim (λ (wrong, e). e) (λ (low, high). absurd (⊎_elim (λ z. omega arith) (λ z. omega arith) w)) (lengths p)

-- 8: "not of the form above"
abbrev pub Formless : List ℕ → Type 0
Formless p = (t : Pattern) → formed_pattern t ≡ true → write_pattern t ≡ p → ⊥

pub refused-syntax : (p : List ℕ) → (read_pattern p ≡ refused PatternSyntax) ↔ (RightLength p × Formless p)
refused-syntax p = (from, back)
  where
    from : read_pattern p ≡ refused PatternSyntax → RightLength p × Formless p
    from e =
        let (low, high) = right-length p (λ f. clash (cc)) in
        ((low, high), λ t g w. not-bad p t low high g w e)

    of : Formless p → Finding p → read_pattern p ≡ refused PatternSyntax
    of none_of (bad n f) = f
    of none_of (many t g w over f) = absurd (none_of t g w)
    of none_of (fine t g w few f) = absurd (none_of t g w)

    back : RightLength p × Formless p → read_pattern p ≡ refused PatternSyntax
    back ((low, high), none_of) = of none_of (verdict p low high)

-- 9: "over 29"
abbrev pub Overfull : List ℕ → Type 0
Overfull p = (t : Pattern) × WritesAs t p × (29 < atom_count t)

pub refused-atoms : (p : List ℕ) → (read_pattern p ≡ refused TooManyAtoms) ↔ (RightLength p × Overfull p)
refused-atoms p = (from, back)
  where
    of : read_pattern p ≡ refused TooManyAtoms → Finding p → Overfull p
    of e (bad n f) = clash (cc)
    of e (many t g w over f) = (t, (g, w), over)
    of e (fine t g w few f) = clash (cc)

    from : read_pattern p ≡ refused TooManyAtoms → RightLength p × Overfull p
    from e =
        let (low, high) = right-length p (λ f. clash (cc)) in
        ((low, high), of e (verdict p low high))

    back : RightLength p × Overfull p → read_pattern p ≡ refused TooManyAtoms
    back ((low, high), (t, (g, w), over)) = rw (tree-read p t low high g w, lt-leb (atom_count t) 29 over)

-- "then 7; then 8 over the whole pattern; 9": what a pattern is refused for
pub data PatternRefused (p : List ℕ) (r : Refusal) : Type 0 where
  -- "0 or over 128"
  wrong-length : (length p ≡ 0) ⊎ (128 < length p) → r ≡ PatternLength → PatternRefused p r
  -- "not of the form above"
  formless : RightLength p → Formless p → r ≡ PatternSyntax → PatternRefused p r
  -- "over 29"
  overfull : RightLength p → Overfull p → r ≡ TooManyAtoms → PatternRefused p r

-- a pattern is refused exactly for these
pub refused-iff : (p : List ℕ) (r : Refusal) → (read_pattern p ≡ refused r) ↔ PatternRefused p r
refused-iff p r = (from, back)
  where
    of : RightLength p → read_pattern p ≡ refused r → Finding p → PatternRefused p r
    of right e (bad n f) = formless right n (cc)
    of right e (many t g w over f) = overfull right (t, (g, w), over) (cc)
    of right e (fine t g w few f) = clash (cc)

    from : read_pattern p ≡ refused r → PatternRefused p r
    from e = ⊎_elim (λ (wrong, f). wrong-length wrong (cc)) (λ (low, high). of (low, high) e (verdict p low high)) (lengths p)

    back : PatternRefused p r → read_pattern p ≡ refused r
    back (wrong-length h e) = (refused-length p).1 h ∙ ap refused (sym e)
    back (formless right h e) = (refused-syntax p).1 (right, h) ∙ ap refused (sym e)
    back (overfull right h e) = (refused-atoms p).1 (right, h) ∙ ap refused (sym e)

-- so with 7 to 9, and nothing else
pub pattern-refusals : (p : List ℕ) (r : Refusal) → read_pattern p ≡ refused r → (7 ≤ number r) × (number r ≤ 9)
pattern-refusals p r e = go ((refused-iff p r).0 e)
  where
    go : PatternRefused p r → (7 ≤ number r) × (number r ≤ 9)
    go (wrong-length h f) = rw f (omega arith, omega arith)
    go (formless right h f) = rw f (omega arith, omega arith)
    go (overfull right h f) = rw f (omega arith, omega arith)

-- a pattern of any length is read as its first 129 bytes
pub pattern-prefix : (n : ℕ) (p : List ℕ) → 129 ≤ n → read_pattern (take n p) ≡ read_pattern p
pattern-prefix n p h = go (leb (length p) n) refl
  where
    go : (b : Bool) → leb (length p) n ≡ b → read_pattern (take n p) ≡ read_pattern p
    go true e = ap read_pattern (take_all n p (leb-true (length p) n e))
    go false e =
        let long : n < length p = leb-false (length p) n e in
        let short : length (take n p) ≡ n = length-take-le n p (omega arith) in
        let left : 128 < length (take n p) = omega arith in
        (refused-length (take n p)).1 (inr left) ∙ sym ((refused-length p).1 (inr (omega arith)))
