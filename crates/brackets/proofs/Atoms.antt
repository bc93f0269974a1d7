-- The reading of an atom: one law for each way out of the code.
use Prim.Native.Nat.{ℕ, ◌+◌, ◌<◌, ◌≤◌}
use native.Mathlib.Omega.{arith}
use native.Mathlib.Decide.{dec_le}
use mathlib.Core.Path.{◌≡◌, sym, ◌∙◌}
use mathlib.Core.Bool.{Bool, true, false, not, ◌||◌}
use mathlib.Core.List.{List}
use lib.Dec.{eqb}
use lib.ListN.{length, drop, get_or, drop_of_length-le, get_or-eq_default}
use lib.Seq.{get_or-drop, drop-drop}
use borrow.Author.Tests.{ne_eqb, not-true, not-false}
use Rattle.letters.specs.declared.Case.{Case}
use Rattle.std.specs.Prelude.{Option, Some}
use Rattle.brackets.specs.declared.cursor.AtomCursor.{AtomCursor}
use Rattle.brackets.specs.Form.{Atom, marks, dot, plain, escaped}
use Rattle.brackets.specs.Sets.{set_of, named}
use Rattle.brackets.specs.Brackets.{parsed, fault, at, read_bracket, read_atom}
use Rattle.brackets.specs.Answers.{cursor_at, place_behind, keys_with, keys_behind}
use Rattle.brackets.proofs.Bytes.{first-at}
use Rattle.brackets.proofs.Answers.{same_place, same-table, behind-place}
use Rattle.runs.specs.Keys.{member}
use Rattle.runs.proofs.Tests.{torn}

module _ (s : List ℕ) (p : ℕ) where
  pub atom-end : length s ≤ p → read_atom (drop p s) ≡ fault
  unfolding read_atom
  atom-end h = rw (drop_of_length-le s h)

  -- an atom a that takes k bytes
  module _ (a : Atom) (k : ℕ) (e : read_atom (drop p s) ≡ parsed a (drop (p + k) s)) where
    ends : p + k ≤ length s → (d : AtomCursor) → d ≡ cursor_at (p + k) → Some d ≡ place_behind (length s) (read_atom (drop p s))
    ends h d f = same_place (read_atom (drop p s)) (parsed a (drop (p + k) s)) e (length s) (Some d) (rw f (behind-place a s (p + k) h))

    stores : (case : Case) (states : ℕ) (before after : List ℕ) → after ≡ keys_with case a states before → after ≡ keys_behind case (read_atom (drop p s)) states before
    stores case states before after f = same-table (read_atom (drop p s)) (parsed a (drop (p + k) s)) e case states before after f

  module _ (b : ℕ) (e : b ≡ get_or s p 0) where
    front : at 0 (drop p s) ≡ b
    front = first-at s p ∙ sym e

    module _ (h : b ≡ 46) where
      atom-dot : read_atom (drop p s) ≡ parsed dot (drop (p + 1) s)
      unfolding read_atom
      atom-dot = rw (front, h, drop-drop)

      pub dot-place : p < length s → (d : AtomCursor) → d ≡ cursor_at (p + 1) → Some d ≡ place_behind (length s) (read_atom (drop p s))
      dot-place l = ends dot 1 atom-dot (omega arith)

      pub dot-table : (case : Case) (states : ℕ) (before after : List ℕ) → after ≡ keys_with case dot states before → after ≡ keys_behind case (read_atom (drop p s)) states before
      dot-table = stores dot 1 atom-dot

    module _ (h : b ≡ 91) where
      atom-bracket : read_atom (drop p s) ≡ read_bracket (drop (p + 1) s)
      unfolding read_atom
      atom-bracket = rw (front, h, drop-drop)

      module _ (inner : AtomCursor) (f : inner ≡ cursor_at (p + 1)) where
        inside : read_atom (drop p s) ≡ read_bracket (drop inner.at s)
        inside = atom-bracket ∙ rw f

        pub bracket-place : (r : Option AtomCursor) → r ≡ place_behind (length s) (read_bracket (drop inner.at s)) → r ≡ place_behind (length s) (read_atom (drop p s))
        bracket-place = same_place (read_atom (drop p s)) (read_bracket (drop inner.at s)) inside (length s)

        pub bracket-table : (case : Case) (states : ℕ) (before after : List ℕ) → after ≡ keys_behind case (read_bracket (drop inner.at s)) states before → after ≡ keys_behind case (read_atom (drop p s)) states before
        bracket-table = same-table (read_atom (drop p s)) (read_bracket (drop inner.at s)) inside

    -- after `\`
    module _ (h : b ≡ 92) (x : ℕ) (f : x ≡ get_or s (p + 1) 0) (m : Bool) (g : m ≡ member x marks) where
      pub atom-unescaped : not m ≡ true → read_atom (drop p s) ≡ fault
      unfolding read_atom
      atom-unescaped k = rw (front, h, get_or-drop, ← f, ← g, not-true m k)

      module _ (k : not m ≡ false) where
        atom-escaped : read_atom (drop p s) ≡ parsed (escaped x) (drop (p + 2) s)
        unfolding read_atom
        atom-escaped = rw (front, h, get_or-drop, ← f, ← g, not-false m k, drop-drop)

        -- a mark is no 0, so it stands inside
        pub escaped-place : (d : AtomCursor) → d ≡ cursor_at (p + 2) → Some d ≡ place_behind (length s) (read_atom (drop p s))
        escaped-place d at-two =
            elim (dec_le (length s) (p + 1)) [
              | yes l ↦ torn (member x marks) (sym g ∙ not-false m k) (rw (f, get_or-eq_default s 0 l))
              | no l ↦ ends (escaped x) 2 atom-escaped (omega arith) d at-two
            ]

        -- an escaped byte has the keys of a plain one
        pub escaped-table : (case : Case) (states : ℕ) (before after : List ℕ) → after ≡ keys_with case (plain x) states before → after ≡ keys_behind case (read_atom (drop p s)) states before
        unfolding set_of named
        escaped-table = stores (escaped x) 2 atom-escaped

    module _ (no-dot : b ≡ 46 → ⊥) (no-bracket : b ≡ 91 → ⊥) (no-escape : b ≡ 92 → ⊥) (m : Bool) (g : m ≡ member b marks) where
      pub atom-mark : eqb b 0 || m ≡ true → read_atom (drop p s) ≡ fault
      unfolding read_atom
      atom-mark k = rw (front, ← g, ne_eqb _ _ no-dot, ne_eqb _ _ no-bracket, ne_eqb _ _ no-escape, k)

      module _ (k : eqb b 0 || m ≡ false) where
        atom-plain : read_atom (drop p s) ≡ parsed (plain b) (drop (p + 1) s)
        unfolding read_atom
        atom-plain = rw (front, ← g, ne_eqb _ _ no-dot, ne_eqb _ _ no-bracket, ne_eqb _ _ no-escape, k, drop-drop)

        pub plain-place : p < length s → (d : AtomCursor) → d ≡ cursor_at (p + 1) → Some d ≡ place_behind (length s) (read_atom (drop p s))
        plain-place l = ends (plain b) 1 atom-plain (omega arith)

        pub plain-table : (case : Case) (states : ℕ) (before after : List ℕ) → after ≡ keys_with case (plain b) states before → after ≡ keys_behind case (read_atom (drop p s)) states before
        plain-table = stores (plain b) 1 atom-plain
