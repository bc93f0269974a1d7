-- Atoms, pieces, groups: what is written of one that has the form is read again.
use Prim.Native.Nat.{ℕ, zero, suc, ◌+◌, ◌*◌, ◌≤◌}
use native.Mathlib.Omega.{arith}
use mathlib.Core.Path.{◌≡◌, refl}
use mathlib.Core.Bool.{Bool, true, false, not, ◌&&◌, ◌||◌}
use mathlib.Core.List.{List, [], ◌∷◌, ◌++◌, append_assoc}
use lib.Dec.{leb, eqb}
use lib.ListN.{length, drop, length-append}
use borrow.Author.Tests.{eqb-true, not-true}
use Rattle.brackets.specs.Form.{Atom, write_atom, formed_atom}
use Rattle.brackets.specs.Brackets.{parsed, at}
use Rattle.pattern.specs.Reader.{read_repeat, ends_pieces, Mode, read_expr}
use Rattle.pattern.proofs.TreesFrom.{single_by}
use Rattle.pattern.specs.Form.{Expr, atom, group, star, plus, opt, seq, alt, write, formed}
use Rattle.runs.specs.Keys.{is_line}
use Rattle.runs.proofs.Tests.{clash, and_parts, neither}
use Rattle.runs.proofs.KeyLaws.{line-append}
use Rattle.brackets.proofs.AtomsBack.{atom-back, atom-begins, atom-long, atom-clean}

-- What expressions begin with.

-- whether a byte is one of the repetition marks
abbrev pub repeats : ℕ → Bool
repeats b = eqb b 42 || (eqb b 43 || eqb b 63)

-- the first byte of an expression: no byte that ends pieces, no `^`, no repetition mark
abbrev pub Starts : ℕ → Type 0
Starts b = (ends_pieces b ≡ false) × (eqb b 94 ≡ false) × (repeats b ≡ false)

-- an atom of the form begins so
atom-starts : (a : Atom) (r : List ℕ) → formed_atom a ≡ true → Starts (at 0 (write_atom a ++ r))
atom-starts a r h = let b = atom-begins a r h in (rw (b.there, b.bar, b.close) b.end, b.start, rw (b.star, b.plus) b.opt)

-- and so does an expression
pub expr-starts : (e : Expr) (k : ℕ) (r : List ℕ) → formed e k ≡ true → Starts (at 0 (write e ++ r))
unfolding write formed
expr-starts (atom a) k r h = atom-starts a r h
expr-starts (group e) k r h = (refl, refl, refl)
expr-starts (star e) k r h = rw append_assoc (expr-starts e 0 (42 ∷ r) (and_parts (leb 1 k) (formed e 0) h).1)
expr-starts (plus e) k r h = rw append_assoc (expr-starts e 0 (43 ∷ r) (and_parts (leb 1 k) (formed e 0) h).1)
expr-starts (opt e) k r h = rw append_assoc (expr-starts e 0 (63 ∷ r) (and_parts (leb 1 k) (formed e 0) h).1)
expr-starts (seq p q) k r h = rw append_assoc (expr-starts p 1 (write q ++ r) (and_parts (formed p 1) (formed q 2) (and_parts (leb 2 k) _ h).1).0)
expr-starts (alt p q) k r h = rw append_assoc (expr-starts p 2 (124 ∷ write q ++ r) (and_parts (formed p 2) (formed q 3) (and_parts (leb 3 k) _ h).1).0)

-- and so has an expression
pub expr-long : (e : Expr) → 1 ≤ length (write e)
unfolding write
expr-long (atom a) = atom-long a
expr-long (group e) = omega arith
expr-long (star e) = rw length-append (omega (arith, expr-long e))
expr-long (plus e) = rw length-append (omega (arith, expr-long e))
expr-long (opt e) = rw length-append (omega (arith, expr-long e))
expr-long (seq p q) = rw length-append (omega (arith, expr-long p))
expr-long (alt p q) = rw length-append (omega (arith, expr-long p))

-- The cycle.

-- what has the form for a mode: for a group after its opening parenthesis, a group
abbrev pub Formed : Mode → Expr → Type 0
Formed Mode.alts e = formed e 3 ≡ true
Formed Mode.branch e = formed e 2 ≡ true
Formed Mode.piece e = formed e 1 ≡ true
Formed Mode.group e = (x : Expr) × (e ≡ group x) × (formed x 3 ≡ true)

-- the bytes that a mode is given of an expression, with the bytes after it
abbrev pub given : Mode → Expr → List ℕ → List ℕ
given Mode.alts e rest = write e ++ rest
given Mode.branch e rest = write e ++ rest
given Mode.piece e rest = write e ++ rest
given Mode.group e rest = drop 1 (write e ++ rest)

-- the byte that follows does not go on what the mode reads
abbrev pub stops : Mode → ℕ → Bool
stops Mode.alts b = ends_pieces b && not (eqb b 124)
stops Mode.branch b = ends_pieces b
stops Mode.piece b = not (repeats b)
stops Mode.group b = true

-- a bound that is enough for an expression of k bytes
abbrev pub room : Mode → ℕ → ℕ
room Mode.alts k = 4 * k + 3
room Mode.branch k = 4 * k + 2
room Mode.piece k = 4 * k + 1
room Mode.group k = 4 * k

-- a mode reads an expression again, if the bound f is enough for its bytes
abbrev pub Again : ℕ → Mode → Expr → List ℕ → Type 0
Again f m e rest = room m (length (write e)) ≤ f → read_expr f m (given m e rest) ≡ parsed e rest

-- reading within a bound undoes writing
abbrev Back : ℕ → Mode → Type 0
Back f m = (e : Expr) (rest : List ℕ) → Formed m e → stops m (at 0 rest) ≡ true → Again f m e rest

-- what ends pieces is no repetition mark
no-repeat : (b : ℕ) → ends_pieces b ≡ true → not (repeats b) ≡ true
no-repeat b h = go (eqb b 0) (eqb b 124) (eqb b 41) refl refl refl h
  where
    is : (c : ℕ) → eqb b c ≡ true → not (repeats c) ≡ true → not (repeats b) ≡ true
    is c e g = rw (eqb-true b c e) g

    go : (x y z : Bool) → eqb b 0 ≡ x → eqb b 124 ≡ y → eqb b 41 ≡ z → x || (y || (z || eqb b 36)) ≡ true → not (repeats b) ≡ true
    go true y z p q r t = is 0 p refl
    go false true z p q r t = is 124 q refl
    go false false true p q r t = is 41 r refl
    go false false false p q r t = is 36 t refl

module _ (f : ℕ) (ih : (m : Mode) → Back f m) where
  -- an atom or a group
  single-back : (e : Expr) (rest : List ℕ) → formed e 0 ≡ true → 4 * length (write e) ≤ f → single_by (eqb (at 0 (write e ++ rest)) 40) f (write e ++ rest) ≡ parsed e rest
  unfolding write formed
  single-back (atom a) rest h l = rw ((atom-begins a rest h).opened, atom-back a rest h)
  single-back (group e) rest h l = ih Mode.group (group e) rest (e, refl, h) refl l
  single-back (star e) rest h l = clash (cc)
  single-back (plus e) rest h l = clash (cc)
  single-back (opt e) rest h l = clash (cc)
  single-back (seq p q) rest h l = clash (cc)
  single-back (alt p q) rest h l = clash (cc)

  -- and with its repetition mark
  marked-back : (e x : Expr) (c : ℕ) (rest : List ℕ) → write x ≡ write e ++ (c ∷ []) → read_repeat e (c ∷ rest) ≡ parsed x rest → formed e 0 ≡ true → Again (suc f) Mode.piece x rest
  unfolding read_expr
  marked-back e x c rest same r h l =
      let long : length (write x) ≡ length (write e) + 1 = rw same (length-append (write e) (c ∷ [])) in
      rw (same, append_assoc (write e) (c ∷ []) rest, single-back e (c ∷ rest) h (omega arith)) r

  -- and without one
  bare-back : (e : Expr) (rest : List ℕ) → formed e 0 ≡ true → repeats (at 0 rest) ≡ false → Again (suc f) Mode.piece e rest
  unfolding read_expr read_repeat
  bare-back e rest h s l =
      let (a, t) = neither (eqb (at 0 rest) 42) (eqb (at 0 rest) 43 || eqb (at 0 rest) 63) s in
      let (b, c) = neither (eqb (at 0 rest) 43) (eqb (at 0 rest) 63) t in
      rw (single-back e rest h (omega arith), a, b, c)

  -- so a piece is read again
  piece_back : Back (suc f) Mode.piece
  unfolding write formed read_repeat
  piece_back (atom a) rest h s l = bare-back (atom a) rest h (not-true _ s) l
  piece_back (group e) rest h s l = bare-back (group e) rest h (not-true _ s) l
  piece_back (star e) rest h s l = marked-back e (star e) 42 rest refl refl h l
  piece_back (plus e) rest h s l = marked-back e (plus e) 43 rest refl refl h l
  piece_back (opt e) rest h s l = marked-back e (opt e) 63 rest refl refl h l
  piece_back (seq p q) rest h s l = clash (cc)
  piece_back (alt p q) rest h s l = clash (cc)

  -- a branch of one piece
  one-back : (e : Expr) (rest : List ℕ) → formed e 1 ≡ true → ends_pieces (at 0 rest) ≡ true → Again (suc f) Mode.branch e rest
  unfolding read_expr
  one-back e rest h s l = rw (ih Mode.piece e rest h (no-repeat (at 0 rest) s) (omega arith), s)

  -- a branch is read again
  branch_back : Back (suc f) Mode.branch
  unfolding write formed read_expr
  branch_back (atom a) rest h s l = one-back (atom a) rest h s l
  branch_back (group e) rest h s l = one-back (group e) rest h s l
  branch_back (star e) rest h s l = one-back (star e) rest h s l
  branch_back (plus e) rest h s l = one-back (plus e) rest h s l
  branch_back (opt e) rest h s l = one-back (opt e) rest h s l
  branch_back (seq p q) rest h s l =
      let (hp, hq) = and_parts (formed p 1) (formed q 2) h in
      let (on, start, mark) = expr-starts q 2 rest hq in
      let long : 4 * (length (write p) + length (write q)) + 2 ≤ suc f = rw length-append at l in
      let some : 1 ≤ length (write p) = expr-long p in
      rw (append_assoc (write p) (write q) rest, ih Mode.piece p (write q ++ rest) hp (rw mark) (omega arith), on, ih Mode.branch q rest hq s (omega arith))
  branch_back (alt p q) rest h s l = clash (cc)

  -- an alternative list of one branch
  only-back : (e : Expr) (rest : List ℕ) → formed e 2 ≡ true → stops Mode.alts (at 0 rest) ≡ true → Again (suc f) Mode.alts e rest
  unfolding read_expr
  only-back e rest h s l =
      let (ends, bar) = and_parts (ends_pieces (at 0 rest)) (not (eqb (at 0 rest) 124)) s in
      rw (ih Mode.branch e rest h ends (omega arith), not-true (eqb (at 0 rest) 124) bar)

  -- an alternative list is read again
  alts-back : Back (suc f) Mode.alts
  unfolding write formed read_expr
  alts-back (atom a) rest h s l = only-back (atom a) rest h s l
  alts-back (group e) rest h s l = only-back (group e) rest h s l
  alts-back (star e) rest h s l = only-back (star e) rest h s l
  alts-back (plus e) rest h s l = only-back (plus e) rest h s l
  alts-back (opt e) rest h s l = only-back (opt e) rest h s l
  alts-back (seq p q) rest h s l = only-back (seq p q) rest h s l
  alts-back (alt p q) rest h s l =
      let (hp, hq) = and_parts (formed p 2) (formed q 3) h in
      let long : 4 * (length (write p) + suc (length (write q))) + 3 ≤ suc f = rw length-append at l in
      rw (append_assoc (write p) (124 ∷ write q) rest, ih Mode.branch p (124 ∷ write q ++ rest) hp refl (omega arith), ih Mode.alts q rest hq s (omega arith))

  -- a group after its opening parenthesis
  closed-back : (x : Expr) (rest : List ℕ) → formed x 3 ≡ true → Again (suc f) Mode.group (group x) rest
  unfolding write read_expr
  closed-back x rest h l =
      let long : 4 * suc (length (write x) + 1) ≤ suc f = rw length-append at l in
      rw (append_assoc (write x) (41 ∷ []) rest, ih Mode.alts x (41 ∷ rest) h refl (omega arith))

  -- the same, as the mode says it
  group-back : Back (suc f) Mode.group
  group-back e rest (x, same, h) s l = rw same (closed-back x rest h (rw same at l))

-- what is written of an expression that has a mode's form is read again, within every bound that is large enough
pub expr-back : (f : ℕ) (m : Mode) (e : Expr) (rest : List ℕ) → Formed m e → stops m (at 0 rest) ≡ true → Again f m e rest
expr-back zero Mode.alts e rest h s l = absurd (omega arith)
expr-back zero Mode.branch e rest h s l = absurd (omega arith)
expr-back zero Mode.piece e rest h s l = absurd (omega arith)
expr-back zero Mode.group e rest h s l = absurd (omega (arith, expr-long e))
expr-back (suc f) Mode.alts e rest h s l = alts-back f (λ m d r. expr-back f m d r) e rest h s l
expr-back (suc f) Mode.branch e rest h s l = branch_back f (λ m d r. expr-back f m d r) e rest h s l
expr-back (suc f) Mode.piece e rest h s l = piece_back f (λ m d r. expr-back f m d r) e rest h s l
expr-back (suc f) Mode.group e rest h s l = group-back f (λ m d r. expr-back f m d r) e rest h s l

-- and so is an expression
pub expr-clean : (e : Expr) (k : ℕ) → formed e k ≡ true → is_line (write e) ≡ true
unfolding write formed
expr-clean (atom a) k h = atom-clean a h
expr-clean (group e) k h = line-append (write e) (41 ∷ []) (expr-clean e 3 h) refl
expr-clean (star e) k h = line-append (write e) (42 ∷ []) (expr-clean e 0 (and_parts (leb 1 k) (formed e 0) h).1) refl
expr-clean (plus e) k h = line-append (write e) (43 ∷ []) (expr-clean e 0 (and_parts (leb 1 k) (formed e 0) h).1) refl
expr-clean (opt e) k h = line-append (write e) (63 ∷ []) (expr-clean e 0 (and_parts (leb 1 k) (formed e 0) h).1) refl
expr-clean (seq p q) k h =
    let (hp, hq) = and_parts (formed p 1) (formed q 2) (and_parts (leb 2 k) (formed p 1 && formed q 2) h).1 in
    line-append (write p) (write q) (expr-clean p 1 hp) (expr-clean q 2 hq)
expr-clean (alt p q) k h =
    let (hp, hq) = and_parts (formed p 2) (formed q 3) (and_parts (leb 3 k) (formed p 2 && formed q 3) h).1 in
    line-append (write p) (124 ∷ write q) (expr-clean p 2 hp) (expr-clean q 3 hq)
