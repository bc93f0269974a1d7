-- Atoms: what is read is what is written, and it has the form.
use Prim.Native.Nat.{ℕ}
use native.Mathlib.Omega.{arith}
use mathlib.Core.Path.{◌≡◌, refl, ◌∙◌}
use mathlib.Core.Logic.{⊎_elim}
use mathlib.Core.Bool.{true, ◌||◌, cond}
use mathlib.Core.List.{List, [], ◌∷◌, ◌++◌}
use lib.Dec.{eqb}
use lib.ListN.{drop}
use borrow.Author.Tests.{eqb-true}
use Rattle.runs.specs.Keys.{member, is_line}
use Rattle.runs.proofs.Tests.{clash, neither}
use Rattle.runs.proofs.KeyLaws.{line-drop, line_first}
use Rattle.brackets.specs.Form.{Atom, plain, dot, escaped, marks, write_atom, formed_atom}
use Rattle.brackets.specs.Brackets.{Parsed, parsed, fault, at, read_bracket, read_atom}
use Rattle.brackets.proofs.Parses.{same-parsed, one-parsed, test-parsed, untest-parsed, front}
use Rattle.brackets.proofs.BracketsFrom.{bracket-from}

-- what an atom that was read is
abbrev Atom-from : List ℕ → Atom → List ℕ → Type 0
Atom-from l a rest = (l ≡ write_atom a ++ rest) × (formed_atom a ≡ true)

-- an escaped byte that was read
escaped-from : (l rest : List ℕ) (a : Atom) → eqb (at 0 l) 92 ≡ true → cond (member (at 1 l) marks) (parsed (escaped (at 1 l)) (drop 2 l)) fault ≡ parsed a rest → Atom-from l a rest
unfolding write_atom formed_atom
escaped-from [] rest a t p = clash (cc)
escaped-from (x ∷ []) rest a t p = clash (cc)
escaped-from (x ∷ b ∷ l) rest a t p =
    let (mark, q) = test-parsed (member b marks) (parsed (escaped b) l) a rest p in
    let (same, after) = same-parsed q in
    rw (← same, ← after, eqb-true x 92 t) (refl, mark)

-- a plain byte that was read
plain-from : (l rest : List ℕ) (a : Atom) → is_line l ≡ true → cond (eqb (at 0 l) 0 || member (at 0 l) marks) fault (parsed (plain (at 0 l)) (drop 1 l)) ≡ parsed a rest → Atom-from l a rest
unfolding write_atom formed_atom
plain-from [] rest a h p = clash (cc)
plain-from (x ∷ l) rest a h p =
    let (t, q) = untest-parsed (eqb x 0 || member x marks) (parsed (plain x) l) a rest p in
    let (same, after) = same-parsed q in
    rw (← same, ← after) (refl, rw (line_first x l h, (neither (eqb x 0) (member x marks) t).1))

-- an atom that was read is what the bytes begin with, and of the form
module _ (l rest : List ℕ) (a : Atom) (h : is_line l ≡ true) where
  dot-from : eqb (at 0 l) 46 ≡ true → ◌≡◌ {A = Parsed Atom} (parsed dot (drop 1 l)) (parsed a rest) → Atom-from l a rest
  unfolding write_atom formed_atom
  dot-from d q = let (same, after) = same-parsed q in rw (← same, ← after) (front l 46 (omega arith) d, refl)

  open-from : eqb (at 0 l) 91 ≡ true → read_bracket (drop 1 l) ≡ parsed a rest → Atom-from l a rest
  open-from b q =
      let (there, formed) = bracket-from (drop 1 l) rest a (line-drop 1 l h) q in
      (front l 91 (omega arith) b ∙ there, formed)

  pub atom-from : read_atom l ≡ parsed a rest → Atom-from l a rest
  unfolding read_atom
  atom-from p = ⊎_elim (λ (d, q). dot-from d q) (λ (d, q). no-dot q) (one-parsed (eqb (at 0 l) 46) _ _ a rest p)
    where
      escaped_or_plain : Parsed Atom
      escaped_or_plain =
          cond (eqb (at 0 l) 92) (cond (member (at 1 l) marks) (parsed (escaped (at 1 l)) (drop 2 l)) fault)
          (cond (eqb (at 0 l) 0 || member (at 0 l) marks) fault (parsed (plain (at 0 l)) (drop 1 l)))

      no-open : escaped_or_plain ≡ parsed a rest → Atom-from l a rest
      no-open q = ⊎_elim (λ (e, r). escaped-from l rest a e r) (λ (e, r). plain-from l rest a h r) (one-parsed (eqb (at 0 l) 92) _ _ a rest q)

      no-dot : cond (eqb (at 0 l) 91) (read_bracket (drop 1 l)) escaped_or_plain ≡ parsed a rest → Atom-from l a rest
      no-dot q = ⊎_elim (λ (b, r). open-from b r) (λ (b, r). no-open r) (one-parsed (eqb (at 0 l) 91) _ _ a rest q)
