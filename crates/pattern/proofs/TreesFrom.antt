-- Atoms, pieces, groups: what is read is what is written, and it has the form.
use Prim.Native.Nat.{ℕ, zero, suc, ◌≤◌}
use native.Mathlib.Omega.{arith}
use mathlib.Core.Path.{◌≡◌, refl, sym, ap, ◌∙◌}
use mathlib.Core.Bool.{Bool, true, false, ◌&&◌, cond}
use mathlib.Core.List.{List, [], ◌∷◌, ◌++◌, append_assoc}
use lib.Dec.{leb, eqb}
use lib.ListN.{drop}
use borrow.Author.Tests.{leb-true, le-leb}
use Rattle.brackets.specs.Brackets.{Parsed, parsed, fault, next, done, at, read_atom}
use Rattle.pattern.specs.Reader.{read_repeat, ends_pieces, Mode, read_expr}
use Rattle.brackets.proofs.Parses.{same-parsed, test-parsed, next-parsed, made-parsed, front}
use Rattle.pattern.specs.Form.{Expr, atom, group, star, plus, opt, seq, alt, write, formed}
use Rattle.runs.specs.Keys.{is_line}
use Rattle.runs.proofs.Tests.{clash, and_parts}
use Rattle.runs.proofs.KeyLaws.{line_after, line-drop}
use Rattle.brackets.proofs.AtomsFrom.{atom-from}

-- a test of how loosely something may bind passes too where it may bind more loosely
looser : (n k : ℕ) (t : Bool) → leb n k && t ≡ true → leb n (suc k) && t ≡ true
looser n k t h =
    let (less, others) = and_parts (leb n k) t h in
    let more : n ≤ suc k = omega (arith, leb-true n k less) in
    rw (le-leb n (suc k) more) others

-- what has the form where it must bind closely has it where it may bind more loosely
pub formed-looser : (e : Expr) (k : ℕ) → formed e k ≡ true → formed e (suc k) ≡ true
unfolding formed
formed-looser (atom a) k h = h
formed-looser (group e) k h = h
formed-looser (star e) k h = looser 1 k (formed e 0) h
formed-looser (plus e) k h = looser 1 k (formed e 0) h
formed-looser (opt e) k h = looser 1 k (formed e 0) h
formed-looser (seq p q) k h = looser 2 k (formed p 1 && formed q 2) h
formed-looser (alt p q) k h = looser 3 k (formed p 2 && formed q 3) h

-- what a mode's bytes are, from the opening parenthesis on
abbrev pub from : Mode → List ℕ → List ℕ
from Mode.alts l = l
from Mode.branch l = l
from Mode.piece l = l
from Mode.group l = 40 ∷ l

-- and how loosely it binds
abbrev pub level : Mode → ℕ
level Mode.alts = 3
level Mode.branch = 2
level Mode.piece = 1
level Mode.group = 0

-- what an expression that was read is
abbrev pub Expr-from : Mode → List ℕ → Expr → List ℕ → Type 0
Expr-from m l e rest = (from m l ≡ write e ++ rest) × (formed e (level m) ≡ true)

-- what an atom or a group that was read is
abbrev Single-from : List ℕ → Expr → List ℕ → Type 0
Single-from l e rest = (l ≡ write e ++ rest) × (formed e 0 ≡ true)

-- every expression that a mode reads of these bytes is so
abbrev Reads-from : ℕ → Mode → List ℕ → List ℕ → Type 0
Reads-from f m l rest = (q : Expr) → read_expr f m l ≡ parsed q rest → Expr-from m l q rest

-- What the readers go on with, by the test of the byte that decides.

-- behind a branch, the others of an alternative list, or none
abbrev alts_by : Bool → ℕ → Expr → List ℕ → Parsed Expr
alts_by t f p mid = cond t (next (read_expr f Mode.alts (drop 1 mid)) (λ q. done (alt p q))) (parsed p mid)

-- behind a piece, the end of its branch, or the others
abbrev pieces_by : Bool → ℕ → Expr → List ℕ → Parsed Expr
pieces_by t f p mid = cond t (parsed p mid) (next (read_expr f Mode.branch mid) (λ q. done (seq p q)))

-- a group, or an atom
abbrev pub single_by : Bool → ℕ → List ℕ → Parsed Expr
single_by t f l = cond t (read_expr f Mode.group (drop 1 l)) (next (read_atom l) (λ a. done (atom a)))

-- an atom or a group with the mark behind it, by the tests for `*`, `+` and `?`
abbrev pub marked_by : Bool → Bool → Bool → Expr → List ℕ → Parsed Expr
marked_by x y z p mid = cond x (parsed (star p) (drop 1 mid)) (cond y (parsed (plus p) (drop 1 mid)) (cond z (parsed (opt p) (drop 1 mid)) (parsed p mid)))

-- after an atom or a group, with its repetition mark
repeat-from : (l mid rest : List ℕ) (p e : Expr) → Single-from l p mid → read_repeat p mid ≡ parsed e rest → Expr-from Mode.piece l e rest
unfolding read_repeat write formed
repeat-from l mid rest p e h r = go (eqb (at 0 mid) 42) (eqb (at 0 mid) 43) (eqb (at 0 mid) 63) refl refl refl r
  where
    marked : (c : ℕ) → 1 ≤ c → eqb (at 0 mid) c ≡ true → l ≡ (write p ++ (c ∷ [])) ++ drop 1 mid
    marked c s t = rw (append_assoc, ← front mid c s t) h.0

    go : (x y z : Bool) → eqb (at 0 mid) 42 ≡ x → eqb (at 0 mid) 43 ≡ y → eqb (at 0 mid) 63 ≡ z → marked_by x y z p mid ≡ parsed e rest → Expr-from Mode.piece l e rest
    go true y z a b c q = let (same, after) = same-parsed q in rw (← same, ← after) (marked 42 (omega arith) a, h.1)
    go false true z a b c q = let (same, after) = same-parsed q in rw (← same, ← after) (marked 43 (omega arith) b, h.1)
    go false false true a b c q = let (same, after) = same-parsed q in rw (← same, ← after) (marked 63 (omega arith) c, h.1)
    go false false false a b c q = let (same, after) = same-parsed q in rw (← same, ← after) (h.0, formed-looser p 0 h.1)

-- p was read of l, and e of it and what is behind it
module _ (f : ℕ) (l mid rest : List ℕ) (p e : Expr) where
  -- after a branch of an alternative list, with the others
  alts-from : Expr-from Mode.branch l p mid → Reads-from f Mode.alts (drop 1 mid) rest → alts_by (eqb (at 0 mid) 124) f p mid ≡ parsed e rest → Expr-from Mode.alts l e rest
  unfolding write formed
  alts-from h ih r = go (eqb (at 0 mid) 124) refl r
    where
      go : (t : Bool) → eqb (at 0 mid) 124 ≡ t → alts_by t f p mid ≡ parsed e rest → Expr-from Mode.alts l e rest
      go true t r =
          let (q, same, others) = made-parsed (read_expr f Mode.alts (drop 1 mid)) (λ q. alt p q) e rest r in
          let (there, formed-q) = ih q others in
          rw same (rw (append_assoc (write p) (124 ∷ write q) rest, ← there, ← front mid 124 (omega arith) t) h.0, rw h.1 formed-q)
      go false t r = let (same, after) = same-parsed r in rw (← same, ← after) (h.0, formed-looser p 2 h.1)

  -- after a piece of a branch, with the others
  branch-from : Expr-from Mode.piece l p mid → Reads-from f Mode.branch mid rest → pieces_by (ends_pieces (at 0 mid)) f p mid ≡ parsed e rest → Expr-from Mode.branch l e rest
  unfolding write formed
  branch-from h ih r = go (ends_pieces (at 0 mid)) r
    where
      go : (t : Bool) → pieces_by t f p mid ≡ parsed e rest → Expr-from Mode.branch l e rest
      go true r = let (same, after) = same-parsed r in rw (← same, ← after) (h.0, formed-looser p 1 h.1)
      go false r =
          let (q, same, others) = made-parsed (read_expr f Mode.branch mid) (λ q. seq p q) e rest r in
          let (there, formed-q) = ih q others in
          rw same (rw (append_assoc (write p) (write q) rest, ← there) h.0, rw h.1 formed-q)

-- an atom or a group
single-from : (f : ℕ) (l mid : List ℕ) (e : Expr) → is_line l ≡ true → Reads-from f Mode.group (drop 1 l) mid → single_by (eqb (at 0 l) 40) f l ≡ parsed e mid → Single-from l e mid
unfolding write formed
single-from f l mid e h ih r = go (eqb (at 0 l) 40) refl r
  where
    go : (t : Bool) → eqb (at 0 l) 40 ≡ t → single_by t f l ≡ parsed e mid → Single-from l e mid
    go true t r = (front l 40 (omega arith) t ∙ (ih e r).0, (ih e r).1)
    go false t r =
        let (a, same, one) = made-parsed (read_atom l) (λ a. atom a) e mid r in
        rw same (atom-from l mid a h one)

-- a group after its opening parenthesis, from what is in it
group-from : (l mid rest : List ℕ) (p e : Expr) → Expr-from Mode.alts l p mid → cond (eqb (at 0 mid) 41) (parsed (group p) (drop 1 mid)) fault ≡ parsed e rest → Expr-from Mode.group l e rest
unfolding write formed
group-from l mid rest p e h r =
    let (t, q) = test-parsed (eqb (at 0 mid) 41) (parsed (group p) (drop 1 mid)) e rest r in
    let (same, after) = same-parsed q in
    let closes : mid ≡ 41 ∷ rest = rw (← after) (front mid 41 (omega arith) t) in
    rw (← same) (ap (λ (m : List ℕ). 40 ∷ m) (rw (append_assoc (write p) (41 ∷ []) rest, ← closes) h.0), h.1)

-- what was read in any mode is what the bytes begin with, and of the form
pub expr-from : (f : ℕ) (m : Mode) (l rest : List ℕ) (e : Expr) → is_line l ≡ true → read_expr f m l ≡ parsed e rest → Expr-from m l e rest
unfolding read_expr
expr-from zero m l rest e h r = clash (cc)
expr-from (suc f) Mode.alts l rest e h r =
    let (p, mid, one, others) = next-parsed (read_expr f Mode.branch l) (λ p m. alts_by (eqb (at 0 m) 124) f p m) e rest r in
    let this = expr-from f Mode.branch l mid p h one in
    let clean : is_line mid ≡ true = line_after (write p) mid (rw this.0 at h) in
    alts-from f l mid rest p e this (λ q s. expr-from f Mode.alts (drop 1 mid) rest q (line-drop 1 mid clean) s) others
expr-from (suc f) Mode.branch l rest e h r =
    let (p, mid, one, others) = next-parsed (read_expr f Mode.piece l) (λ p m. pieces_by (ends_pieces (at 0 m)) f p m) e rest r in
    let this = expr-from f Mode.piece l mid p h one in
    let clean : is_line mid ≡ true = line_after (write p) mid (rw this.0 at h) in
    branch-from f l mid rest p e this (λ q s. expr-from f Mode.branch mid rest q clean s) others
expr-from (suc f) Mode.piece l rest e h r =
    let (p, mid, one, others) = next-parsed (single_by (eqb (at 0 l) 40) f l) read_repeat e rest r in
    repeat-from l mid rest p e (single-from f l mid p h (λ q s. expr-from f Mode.group (drop 1 l) mid q (line-drop 1 l h) s) one) others
expr-from (suc f) Mode.group l rest e h r =
    let (p, mid, one, others) = next-parsed (read_expr f Mode.alts l) (λ e m. cond (eqb (at 0 m) 41) (parsed (group e) (drop 1 m)) fault) e rest r in
    group-from l mid rest p e (expr-from f Mode.alts l mid p h one) others

-- what was read after an opening parenthesis is a group
pub group-group : (f : ℕ) (l rest : List ℕ) (e : Expr) → read_expr f Mode.group l ≡ parsed e rest → (x : Expr) × (e ≡ group x)
unfolding read_expr
group-group zero l rest e r = clash (cc)
group-group (suc f) l rest e r =
    let (p, mid, one, others) = next-parsed (read_expr f Mode.alts l) (λ e m. cond (eqb (at 0 m) 41) (parsed (group e) (drop 1 m)) fault) e rest r in
    let (t, q) = test-parsed (eqb (at 0 mid) 41) (parsed (group p) (drop 1 mid)) e rest others in
    (p, sym (same-parsed q).0)
