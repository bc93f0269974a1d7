-- An atom: its state as a set, and what its reader leaves.
use Prim.Native.Nat.{ℕ, ◌+◌, ◌-◌, ◌%◌, ◌^◌, ◌<◌, ◌≤◌}
use native.Mathlib.Omega.{arith}
use native.Mathlib.Nat.{mod-eq_of_lt}
use mathlib.Core.Path.{◌≡◌, refl, sym, ap, ◌∙◌}
use mathlib.Core.Bool.{Bool, true, false, ◌&&◌, and-false}
use mathlib.Core.List.{List, ◌++◌}
use lib.Dec.{leb, eqb}
use lib.ListN.{length, length-append, length-drop}
use lib.Pow.{pow-lt}
use borrow.Author.Tests.{eq-eqb, ne_eqb, eqb-true, eqb-false, leb-true, leb-false}
use Rattle.stateset.proofs.Sets.{word-one, word-ext, word_none}
use Rattle.brackets.specs.declared.cursor.AtomCursor.{AtomCursor}
use Rattle.std.specs.Prelude.{Some}
use Rattle.brackets.specs.Form.{Atom, write_atom}
use Rattle.brackets.specs.Brackets.{Parsed, parsed, fault, read_atom}
use Rattle.brackets.specs.Answers.{place_behind, keys_behind}
use Rattle.brackets.proofs.AtomsFrom.{atom-from}
use Rattle.brackets.proofs.AtomsBack.{atom-long}
use Rattle.pattern.specs.declared.cursor.Cursor.{Cursor}
use Rattle.pattern.specs.Cycle.{Moved, left, AtomDone, ReadsAtom}
use Rattle.pattern.specs.States.{nothing, first, last, atom_state, atom_word}
use Rattle.pattern.proofs.AtomTables.{keys-atom}
use Rattle.runs.proofs.KeyLaws.{line-drop}
use Rattle.runs.proofs.Tests.{clash}

-- the state of atom k as a set: one that is stored
atom-low : (k : ℕ) → k < 29 → 2 ^ (k + 3) % 2 ^ 64 ≡ atom_word (eqb k)
atom-low k h =
    let small : k + 3 < 64 = omega arith in
    let inside : k + 3 < 32 = omega arith in
    mod-eq_of_lt (pow-lt small) ∙ word-one 32 (k + 3) inside ∙ word-ext 32 (λ p. eqb (k + 3) p) (λ p. atom_state (eqb k) p) (λ p g. same p (leb 3 p) refl)
  where
    apart : (p : ℕ) → p < 3 → k + 3 ≡ p → ⊥
    apart p l q = omega arith

    go : (p : ℕ) → 3 ≤ p → (t : Bool) → eqb k (p - 3) ≡ t → eqb (k + 3) p ≡ eqb k (p - 3)
    go p l true q = let f : k ≡ p - 3 = eqb-true _ _ q in let g : k + 3 ≡ p = omega arith in rw q (eq-eqb (k + 3) p g)
    go p l false q = rw q (ne_eqb (k + 3) p (λ g. eqb-false k (p - 3) q (back p g)))
      where
        back : (p : ℕ) → k + 3 ≡ p → k ≡ p - 3
        back p g = omega arith

    same : (p : ℕ) (t : Bool) → leb 3 p ≡ t → eqb (k + 3) p ≡ (leb 3 p && eqb k (p - 3))
    same p true e = let low : 3 ≤ p = leb-true 3 p e in rw e (go p low (eqb k (p - 3)) refl)
    same p false e = let low : p < 3 = leb-false 3 p e in rw e (ne_eqb (k + 3) p (λ q. apart p low q))

pub atom-state : {w q k : ℕ} → w ≡ 2 ^ q % 2 ^ 64 → q ≡ 3 + k → k < 29 → w ≡ atom_word (eqb k)
atom-state {w} {q} {k} e f h =
    let same : q ≡ k + 3 = omega (arith, f) in
    e ∙ rw same (atom-low k h)

-- and one that is not
pub atom-high : (k : ℕ) → 29 ≤ k → 0 ≡ atom_word (eqb k)
atom-high k h = word_none 32 ∙ word-ext 32 (λ p. false) (λ p. atom_state (eqb k) p) (λ p g. rw (ne_eqb k (p - 3) (λ e. far p g e)) (sym (and-false (leb 3 p))))
  where
    far : (p : ℕ) → p < 32 → k ≡ p - 3 → ⊥
    far p g e = omega arith

-- the bytes from a cursor on, as what was read of them and the rest
pub reached : (c : Cursor) (w rest : List ℕ) → left c ≡ w ++ rest → length c.bytes.now - length rest ≡ c.at + length w
reached c w rest split =
    let sum : length c.bytes.now - c.at ≡ length w + length rest = sym (length-drop c.at c.bytes.now) ∙ ap length split ∙ length-append w rest in
    omega (arith, c.inside)

-- the place behind an atom is inside, and further
pub atom-place : (c : Cursor) (next : AtomCursor) → Some next ≡ place_behind (length c.bytes.now) (read_atom (left c)) → (next.at ≤ length c.bytes.now) × (c.atoms + 1 ≤ next.at)
atom-place c next e = go (read_atom (left c)) refl e
  where
    go : (p : Parsed Atom) → read_atom (left c) ≡ p → Some next ≡ place_behind (length c.bytes.now) p → (next.at ≤ length c.bytes.now) × (c.atoms + 1 ≤ next.at)
    go (parsed a rest) q h =
        let there : next.at ≡ length c.bytes.now - length rest = cc in
        let on : length c.bytes.now - length rest ≡ c.at + length (write_atom a) = reached c (write_atom a) rest (atom-from (left c) rest a (line-drop c.at c.bytes.now c.clean) q).0 in
        (omega (arith, there), omega (arith, there, on, atom-long a, c.few))
    go fault q h = clash (cc)

-- what the reader of an atom answers at a cursor, where `set` is the atom's state and `place` what the reader of brackets answers
module _ (c : Cursor) (keys after : List ℕ) {set : ℕ} (eset : set ≡ atom_word (eqb c.atoms)) (table : after ≡ keys_behind c.case (read_atom (left c)) set keys) where
  pub atom-read : (next : AtomCursor) (d : Cursor) → Some next ≡ place_behind (length c.bytes.now) (read_atom (left c)) → Moved c next.at (c.atoms + 1) d → ReadsAtom c keys (Some (d, record { nothing = false; first = set; last = set })) after
  unfolding nothing first last
  atom-read next d e m = go (read_atom (left c)) e table
    where
      go : (p : Parsed Atom) → Some next ≡ place_behind (length c.bytes.now) p → after ≡ keys_behind c.case p set keys → AtomDone c keys (Some (d, record { nothing = false; first = set; last = set })) after p
      go (parsed a rest) h k =
          let there : next.at ≡ length c.bytes.now - length rest = cc in
          record { moved = record { same = m.same; place = m.place ∙ there; many = m.many; held = m.held }; shape = rw eset refl; keyed = k ∙ rw eset (keys-atom c.case c.atoms a keys) }
      go fault h k = clash (cc)
