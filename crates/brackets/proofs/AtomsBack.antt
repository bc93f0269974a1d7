-- Atoms: what is written of one that has the form is read again.
use Prim.Native.Nat.{ℕ, ◌≤◌}
use native.Mathlib.Omega.{arith}
use mathlib.Core.Path.{◌≡◌, refl}
use mathlib.Core.Bool.{true, false, not}
use mathlib.Core.List.{List, [], ◌++◌}
use lib.Dec.{eqb}
use lib.ListN.{length}
use borrow.Author.Tests.{not-true}
use Rattle.runs.specs.Keys.{member, line_key, is_line}
use Rattle.runs.proofs.Tests.{and_parts}
use Rattle.runs.proofs.KeyLaws.{other-than, line-cons, line-member, key-is}
use Rattle.brackets.specs.Form.{Atom, plain, dot, escaped, bracket, marks, write_atom, formed_atom}
use Rattle.brackets.specs.Brackets.{parsed, at, read_atom}
use Rattle.brackets.proofs.BracketsBack.{bracket-back, bracket-clean}

-- a plain byte is no mark
plain-apart : (b c : ℕ) → formed_atom (plain b) ≡ true → member c marks ≡ true → eqb b c ≡ false
unfolding formed_atom
plain-apart b c h g = other-than b c marks (not-true _ (and_parts (line_key b) (not (member b marks)) h).1) g

-- and not the end of the bytes
plain-there : (b : ℕ) → formed_atom (plain b) ≡ true → eqb b 0 ≡ false
unfolding formed_atom
plain-there b h = (key-is b (and_parts (line_key b) (not (member b marks)) h).0).2

-- what an atom begins with: a byte, which is no `|`, `)`, `$`, `^`, `*`, `+`, `?` or `(`
pub record Begins (b : ℕ) : Type 0 where
  pub there : eqb b 0 ≡ false
  pub bar : eqb b 124 ≡ false
  pub close : eqb b 41 ≡ false
  pub end : eqb b 36 ≡ false
  pub start : eqb b 94 ≡ false
  pub star : eqb b 42 ≡ false
  pub plus : eqb b 43 ≡ false
  pub opt : eqb b 63 ≡ false
  pub opened : eqb b 40 ≡ false

pub atom-begins : (a : Atom) (r : List ℕ) → formed_atom a ≡ true → Begins (at 0 (write_atom a ++ r))
unfolding write_atom
atom-begins (plain b) r h =
    let apart = plain-apart b in
    record {
      there = plain-there b h;
      bar = apart 124 h refl;
      close = apart 41 h refl;
      end = apart 36 h refl;
      start = apart 94 h refl;
      star = apart 42 h refl;
      plus = apart 43 h refl;
      opt = apart 63 h refl;
      opened = apart 40 h refl;
    }
atom-begins dot r h = record { there = refl; bar = refl; close = refl; end = refl; start = refl; star = refl; plus = refl; opt = refl; opened = refl }
atom-begins (escaped b) r h = record { there = refl; bar = refl; close = refl; end = refl; start = refl; star = refl; plus = refl; opt = refl; opened = refl }
atom-begins (bracket n es) r h = record { there = refl; bar = refl; close = refl; end = refl; start = refl; star = refl; plus = refl; opt = refl; opened = refl }

-- an atom has a byte
pub atom-long : (a : Atom) → 1 ≤ length (write_atom a)
unfolding write_atom
atom-long (plain b) = omega arith
atom-long dot = omega arith
atom-long (escaped b) = omega arith
atom-long (bracket n es) = omega arith

-- a plain byte of the form is read as nothing else
plain-dot : (b : ℕ) → formed_atom (plain b) ≡ true → (eqb b 46 ≡ false) × (eqb b 91 ≡ false) × (eqb b 92 ≡ false)
plain-dot b h = (plain-apart b 46 h refl, plain-apart b 91 h refl, plain-apart b 92 h refl)

-- an atom of the form is read again
pub atom-back : (a : Atom) (rest : List ℕ) → formed_atom a ≡ true → read_atom (write_atom a ++ rest) ≡ parsed a rest
unfolding read_atom write_atom formed_atom
atom-back (plain b) rest h =
    let (dot-not, open-not, slash-not) = plain-dot b h in
    rw (not-true (member b marks) (and_parts (line_key b) (not (member b marks)) h).1, dot-not, open-not, slash-not, plain-there b h)
atom-back dot rest h = refl
atom-back (escaped b) rest h = rw h
atom-back (bracket n es) rest h = bracket-back n es rest h

-- a mark is a byte of a pattern
mark-clean : (b : ℕ) → member b marks ≡ true → line_key b ≡ true
mark-clean b h = line-member b marks h refl

-- an atom of the form is written as bytes of a pattern
pub atom-clean : (a : Atom) → formed_atom a ≡ true → is_line (write_atom a) ≡ true
unfolding write_atom formed_atom
atom-clean (plain b) h = line-cons b [] (and_parts (line_key b) (not (member b marks)) h).0 refl
atom-clean dot h = refl
atom-clean (escaped b) h = line-cons b [] (mark-clean b h) refl
atom-clean (bracket n es) h = bracket-clean n es h
