-- The tables that an expression is read into: those of its parts, one after the other, and what its form adds.
use Prim.Native.Nat.{ℕ, ◌+◌, ◌-◌}
use mathlib.Core.Path.{◌≡◌, refl, sym, ap, ◌∙◌}
use mathlib.Core.Bool.{Bool, true, false, ◌&&◌, ◌||◌, cond, and_comm, and-false, or_comm}
use mathlib.Core.List.{List}
use lib.Dec.{leb, ltb, eqb}
use lib.Bits.{bit_or, or_zero_r}
use borrow.Author.Tests.{ltb-true, ltb-false}
use Rattle.stateset.specs.Set.{bit}
use Rattle.stateset.proofs.Sets.{word-or, word-ext, word_none, word-high, bit_word, or_assoc}
use Rattle.brackets.specs.Form.{Atom}
use Rattle.letters.specs.declared.Case.{Case}
use Rattle.brackets.specs.Sets.{Sets, set_of}
use Rattle.pattern.specs.States.{nothing, first, last, follow, holds, atom_state, atom_word}
use Rattle.brackets.proofs.Entries.{with-same, with-with, with_none}
use Rattle.pattern.specs.Tables.{is_atom, keys_after, enter_after, linked}
use Rattle.pattern.specs.Form.{Expr, atom, plus, seq, alt, atoms}
use Rattle.brackets.specs.Answers.{keys_with}

share : (t x y : Bool) → (t && x || t && y) ≡ (t && (x || y))
share true x y = refl
share false x y = refl

spread : (t x y l f : Bool) → (t && (x || y) || (t && l) && f) ≡ (t && (x || (y || l && f)))
spread true true y l f = refl
spread true false true l f = refl
spread true false false l f = refl
spread false x y l f = refl

spread-one : (t x l f : Bool) → (t && x || (t && l) && f) ≡ (t && (x || l && f))
spread-one true x l f = refl
spread-one false x l f = refl

-- words of atoms: of those that have X or Y, and of none
pub atoms-or : (X Y : ℕ → Bool) → bit_or (atom_word X) (atom_word Y) ≡ atom_word (λ k. X k || Y k)
atoms-or X Y = word-or 32 (λ p. atom_state X p) (λ p. atom_state Y p) ∙ word-ext 32 (λ p. atom_state X p || atom_state Y p) (λ p. atom_state (λ k. X k || Y k) p) (λ p h. share (leb 3 p) (X (p - 3)) (Y (p - 3)))

pub atoms-none : (X : ℕ → Bool) → ((k : ℕ) → X k ≡ false) → atom_word X ≡ 0
atoms-none X e = word-ext 32 (λ p. atom_state X p) (λ p. false) (λ p h. rw (e (p - 3)) (none (leb 3 p))) ∙ sym (word_none 32)
  where
    none : (t : Bool) → (t && false) ≡ false
    none true = refl
    none false = refl

-- an entry with the atoms that have X too
abbrev pub with_atoms : ℕ → (ℕ → Bool) → ℕ
with_atoms x X = bit_or x (atom_word X)

-- a word that is added where a test holds
pub added-if : (t : Bool) (F : ℕ → Bool) (y : ℕ) → cond t (with_atoms y F) y ≡ with_atoms y (λ j. t && F j)
added-if true F y = refl
added-if false F y = rw (atoms-none (λ j. false) (λ j. refl)) (sym (or_zero_r y))

pub atoms-same : (X Y : ℕ → Bool) → ((k : ℕ) → X k ≡ Y k) → atom_word X ≡ atom_word Y
atoms-same X Y e = word-ext 32 (λ p. atom_state X p) (λ p. atom_state Y p) (λ p h. rw (e (p - 3)))

-- two parts add their atoms, one after the other
pub both-added : (X Y Z : ℕ → Bool) → ((k : ℕ) → (X k || Y k) ≡ Z k) → (x : ℕ) → with_atoms (with_atoms x X) Y ≡ with_atoms x Z
both-added X Y Z e x = or_assoc x (atom_word X) (atom_word Y) ∙ ap (λ (y : ℕ). bit_or x y) (atoms-or X Y ∙ atoms-same (λ k. X k || Y k) Z e)

-- which states stand in a word of atoms
atoms-bit : (L : ℕ → Bool) (s : ℕ) → bit (atom_word L) s ≡ (is_atom s && L (s - 3))
atoms-bit L s = go (ltb s 32) refl
  where
    low : (t l : Bool) → (t && l) ≡ ((t && true) && l)
    low true l = refl
    low false l = refl

    none : (t l : Bool) → false ≡ ((t && false) && l)
    none true l = refl
    none false l = refl

    go : (t : Bool) → ltb s 32 ≡ t → bit (atom_word L) s ≡ ((leb 3 s && ltb s 32) && L (s - 3))
    go true h = rw h (bit_word 32 (λ p. atom_state L p) s (ltb-true s 32 h) ∙ low (leb 3 s) (L (s - 3)))
    go false h = rw h (word-high 32 (λ p. atom_state L p) s (ltb-false s 32 h) ∙ none (leb 3 s) (L (s - 3)))

-- an entry that is linked: state s has P, and F too if it is one of L
link-entry : (P F L Z : ℕ → Bool) (s x : ℕ) → ((j : ℕ) → (P j || ((is_atom s && L (s - 3)) && F j)) ≡ Z j) → cond (bit (atom_word L) s) (with_atoms (with_atoms x P) F) (with_atoms x P) ≡ with_atoms x Z
link-entry P F L Z s x e =
    rw (atoms-bit L s)
    (added-if (is_atom s && L (s - 3)) F (bit_or x (atom_word P)) ∙ both-added P (λ j. (is_atom s && L (s - 3)) && F j) Z e x)

module _ (b : ℕ) (p q : Expr) where
  pub keys-seq : (S : Sets) (keys : List ℕ) → keys_after S (b + atoms p) q (keys_after S b p keys) ≡ keys_after S b (seq p q) keys
  unfolding holds
  keys-seq S keys = with-with _ _ 0 keys ∙ with-same _ _ (λ c x. both-added (λ k. holds S b p k c) (λ k. holds S (b + atoms p) q k c) (λ k. holds S b (seq p q) k c) (λ k. refl) x) 0 keys

  pub keys-alt : (S : Sets) (keys : List ℕ) → keys_after S (b + atoms p) q (keys_after S b p keys) ≡ keys_after S b (alt p q) keys
  unfolding holds
  keys-alt S keys = with-with _ _ 0 keys ∙ with-same _ _ (λ c x. both-added (λ k. holds S b p k c) (λ k. holds S (b + atoms p) q k c) (λ k. holds S b (alt p q) k c) (λ k. refl) x) 0 keys

  -- and each state what it may enter
  pub enter-alt : (enter : List ℕ) → enter_after (b + atoms p) q (enter_after b p enter) ≡ enter_after b (alt p q) enter
  unfolding follow
  enter-alt enter =
      with-with _ _ 0 enter
      ∙ with-same _ _
      (λ s x. both-added (λ j. is_atom s && follow b p (s - 3) j) (λ j. is_atom s && follow (b + atoms p) q (s - 3) j) (λ j. is_atom s && follow b (alt p q) (s - 3) j) (λ j. share (is_atom s) (follow b p (s - 3) j) (follow (b + atoms p) q (s - 3) j)) x)
      0
      enter

  pub enter-seq : (enter : List ℕ) → linked (atom_word (last b p)) (atom_word (first (b + atoms p) q)) (enter_after (b + atoms p) q (enter_after b p enter)) ≡ enter_after b (seq p q) enter
  unfolding follow
  enter-seq enter =
      ap (linked (atom_word (last b p)) (atom_word (first (b + atoms p) q))) (with-with _ _ 0 enter)
      ∙ with-with _ _ 0 enter
      ∙ with-same _ _
      (λ s x.
      ap (λ (y : ℕ). cond (bit (atom_word (last b p)) s) (bit_or y (atom_word (first (b + atoms p) q))) y)
      (both-added (λ j. is_atom s && follow b p (s - 3) j) (λ j. is_atom s && follow (b + atoms p) q (s - 3) j) (λ j. is_atom s && (follow b p (s - 3) j || follow (b + atoms p) q (s - 3) j)) (λ j. share (is_atom s) (follow b p (s - 3) j) (follow (b + atoms p) q (s - 3) j)) x)
      ∙ link-entry (λ j. is_atom s && (follow b p (s - 3) j || follow (b + atoms p) q (s - 3) j)) (first (b + atoms p) q) (last b p) (λ j. is_atom s && follow b (seq p q) (s - 3) j) s x
      (λ j. spread (is_atom s) (follow b p (s - 3) j) (follow (b + atoms p) q (s - 3) j) (last b p (s - 3)) (first (b + atoms p) q j)))
      0
      enter

-- a repetition links its ends to its beginnings
pub enter-again : (b : ℕ) (e : Expr) (enter : List ℕ) → linked (atom_word (last b e)) (atom_word (first b e)) (enter_after b e enter) ≡ enter_after b (plus e) enter
unfolding follow
enter-again b e enter = with-with _ _ 0 enter ∙ with-same _ _
    (λ s x.
    link-entry (λ j. is_atom s && follow b e (s - 3) j) (first b e) (last b e) (λ j. is_atom s && follow b (plus e) (s - 3) j) s x
    (λ j. spread-one (is_atom s) (follow b e (s - 3) j) (last b e (s - 3)) (first b e j)))
    0
    enter

-- an atom has its keys, and no other follows it
pub keys-atom : (case : Case) (b : ℕ) (a : Atom) (keys : List ℕ) → keys_with case a (atom_word (eqb b)) keys ≡ keys_after (set_of case) b (atom a) keys
unfolding holds
keys-atom case b a keys =
    with-same _ _ (λ c x. added-if (set_of case a c) (eqb b) x ∙ ap (λ (y : ℕ). bit_or x y) (atoms-same _ _ (λ k. and_comm (set_of case a c) (eqb b k)))) 0 keys

pub enter-atom : (b : ℕ) (a : Atom) (enter : List ℕ) → enter ≡ enter_after b (atom a) enter
unfolding follow
enter-atom b a enter = sym (with_none _ (λ s x. rw (atoms-none (λ j. is_atom s && false) (λ j. and-false (is_atom s))) (or_zero_r x)) 0 enter)

-- what comes first and last in two parts
pub first-seq : (b : ℕ) (p q : Expr) → atom_word (first b (seq p q)) ≡ cond (nothing p) (bit_or (atom_word (first b p)) (atom_word (first (b + atoms p) q))) (atom_word (first b p))
unfolding first
first-seq b p q = sym (added-if (nothing p) (first (b + atoms p) q) (atom_word (first b p)) ∙ atoms-or (first b p) (λ k. nothing p && first (b + atoms p) q k))

pub last-seq : (b : ℕ) (p q : Expr) → atom_word (last b (seq p q)) ≡ cond (nothing q) (bit_or (atom_word (last (b + atoms p) q)) (atom_word (last b p))) (atom_word (last (b + atoms p) q))
unfolding last
last-seq b p q =
    sym (added-if (nothing q) (last b p) (atom_word (last (b + atoms p) q))
    ∙ atoms-or (last (b + atoms p) q) (λ k. nothing q && last b p k)
    ∙ atoms-same _ _ (λ k. or_comm (last (b + atoms p) q k) (nothing q && last b p k)))

pub first-alt : (b : ℕ) (p q : Expr) → atom_word (first b (alt p q)) ≡ bit_or (atom_word (first b p)) (atom_word (first (b + atoms p) q))
unfolding first
first-alt b p q = sym (atoms-or (first b p) (first (b + atoms p) q))

pub last-alt : (b : ℕ) (p q : Expr) → atom_word (last b (alt p q)) ≡ bit_or (atom_word (last b p)) (atom_word (last (b + atoms p) q))
unfolding last
last-alt b p q = sym (atoms-or (last b p) (last (b + atoms p) q))
