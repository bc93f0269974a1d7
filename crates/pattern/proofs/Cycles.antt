-- The readers that read each other in a cycle: what an answer says of what was read, and one law for each way out of each of them.
use Prim.Native.Nat.{ℕ, zero, suc, ◌+◌, ◌-◌, ◌^◌, ◌<◌, ◌≤◌}
use native.Mathlib.Omega.{arith}
use native.Mathlib.Nat.{add-zero, add_assoc, le_refl}
use mathlib.Core.Path.{◌≡◌, refl, sym, ap, ◌∙◌}
use mathlib.Core.Bool.{Bool, true, false, ◌||◌, cond}
use mathlib.Core.List.{List, [], ◌∷◌, ◌++◌}
use lib.Dec.{eqb}
use lib.ListN.{length, drop, get_or, length-append, length-drop}
use lib.Seq.{drop-drop, get_or-drop, drop_at}
use borrow.Author.Tests.{ne_eqb, eqb-true}
use Rattle.stateset.proofs.Sets.{word_lt}
use Rattle.brackets.specs.Sets.{set_of}
use Rattle.pattern.specs.declared.cursor.Cursor.{Cursor}
use Rattle.pattern.specs.declared.shape.Moves.{Moves}
use Rattle.pattern.specs.declared.shape.Shape.{Shape}
use Rattle.brackets.specs.Form.{Atom, write_atom}
use Rattle.brackets.specs.Brackets.{Parsed, parsed, fault, next, done, at, read_atom}
use Rattle.pattern.specs.Reader.{Mode, ends_pieces, read_repeat, read_expr}
use Rattle.pattern.specs.States.{nothing, first, last, follow, holds, atom_state}
use Rattle.pattern.specs.Tables.{linked, shape_of, seq_shape, alt_shape}
use Rattle.std.specs.Prelude.{Some, None}
use Rattle.pattern.specs.Cycle.{Moved, Past, left, byte_at, Part, Made, Done, room, ReadsIn, Reads, AtomMade, AtomDone, ReadsAtom, repeat_enter, Repeats}
use Rattle.pattern.proofs.TreesFrom.{expr-from, group-group, marked_by}
use Rattle.pattern.proofs.Atoms.{reached}
use Rattle.pattern.proofs.AtomTables.{keys-seq, keys-alt, enter-seq, enter-alt, enter-again, enter-atom, first-seq, last-seq, first-alt, last-alt}
use Rattle.pattern.specs.Form.{Expr, atom, group, star, plus, opt, seq, alt, atoms, write}
use Rattle.runs.proofs.KeyLaws.{line-drop}
use Rattle.brackets.proofs.AtomsFrom.{atom-from}
use Rattle.brackets.proofs.AtomsBack.{atom-long}
use Rattle.runs.specs.Keys.{is_line}

-- an expression has an atom, and each atom has a byte
pub atoms-some : (e : Expr) → 1 ≤ atoms e
unfolding atoms
atoms-some (atom a) = omega arith
atoms-some (group e) = atoms-some e
atoms-some (star e) = atoms-some e
atoms-some (plus e) = atoms-some e
atoms-some (opt e) = atoms-some e
atoms-some (seq p q) = let h : 1 ≤ atoms p = atoms-some p in omega arith
atoms-some (alt p q) = let h : 1 ≤ atoms p = atoms-some p in omega arith

pub atoms-written : (e : Expr) → atoms e ≤ length (write e)
unfolding atoms write
atoms-written (atom a) = atom-long a
atoms-written (group e) = let h : atoms e ≤ length (write e) = atoms-written e in rw length-append (omega arith)
atoms-written (star e) = let h : atoms e ≤ length (write e) = atoms-written e in rw length-append (omega arith)
atoms-written (plus e) = let h : atoms e ≤ length (write e) = atoms-written e in rw length-append (omega arith)
atoms-written (opt e) = let h : atoms e ≤ length (write e) = atoms-written e in rw length-append (omega arith)
atoms-written (seq p q) =
    let h : atoms p ≤ length (write p) = atoms-written p in
    let g : atoms q ≤ length (write q) = atoms-written q in
    rw length-append (omega arith)
atoms-written (alt p q) =
    let h : atoms p ≤ length (write p) = atoms-written p in
    let g : atoms q ≤ length (write q) = atoms-written q in
    rw length-append (omega arith)

-- the bytes that an expression was read from; those of a group stand behind its parenthesis
group-bytes : (x e : Expr) (l rest : List ℕ) → e ≡ group x → 40 ∷ l ≡ write e ++ rest → (w : List ℕ) × (l ≡ w ++ rest) × (atoms e ≤ length w)
unfolding write atoms
group-bytes x e l rest same h =
    let all : 40 ∷ l ≡ 40 ∷ ((write x ++ (41 ∷ [])) ++ rest) = rw same at h in
    let many : atoms x ≤ length (write x) = atoms-written x in
    (write x ++ (41 ∷ []), cc, rw (same, length-append) (omega arith))

bytes_of : (f : ℕ) (m : Mode) (l rest : List ℕ) (e : Expr) → is_line l ≡ true → read_expr f m l ≡ parsed e rest → (w : List ℕ) × (l ≡ w ++ rest) × (atoms e ≤ length w)
bytes_of f Mode.alts l rest e h q = (write e, (expr-from f Mode.alts l rest e h q).0, atoms-written e)
bytes_of f Mode.branch l rest e h q = (write e, (expr-from f Mode.branch l rest e h q).0, atoms-written e)
bytes_of f Mode.piece l rest e h q = (write e, (expr-from f Mode.piece l rest e h q).0, atoms-written e)
bytes_of f Mode.group l rest e h q =
    let (x, same) = group-group f l rest e q in
    group-bytes x e l rest same (expr-from f Mode.group l rest e h q).0

-- an answer of a reader says what was read, and where reading goes on: behind it
pub record View (m : Mode) (c : Cursor) (moves : Moves) (r : Cursor × Shape) (moves' : Moves) (f : ℕ) : Type 0 where
  pub expr : Expr
  pub rest : List ℕ
  pub reading : read_expr f m (left c) ≡ parsed expr rest
  pub made : Made c expr rest moves r moves'
  pub here : rest ≡ left r.0
  pub on : c.at < r.0.at

-- the byte at a cursor
peeked : (c : Cursor) → at 0 (left c) ≡ byte_at c
peeked c = get_or-drop c.at c.bytes.now 0 0 ∙ ap (λ (j : ℕ). get_or c.bytes.now j 0) (add-zero c.at)

-- and that at the cursor behind what was read
pub byte-behind : (d : Cursor) {rest : List ℕ} {b : ℕ} → rest ≡ left d → b ≡ byte_at d → at 0 rest ≡ b
byte-behind d h e = ap (at 0) h ∙ peeked d ∙ sym e

pub nonzero : (b n : ℕ) → 1 ≤ n → b ≡ n → b ≡ 0 → ⊥
nonzero b n h e z = omega arith

-- a cursor in the same pattern has as many bytes
pub long : {c d : Cursor} {i n : ℕ} → Moved c i n d → length d.bytes.now ≡ length c.bytes.now
long m = ap (λ (l : List ℕ). length l) m.same

-- where the bytes w are left out, the others are left at the place behind them
pub behind : (c d : Cursor) (w rest : List ℕ) {n : ℕ} → left c ≡ w ++ rest → Moved c (length c.bytes.now - length rest) n d → rest ≡ left d
behind c d w rest f m =
    sym (drop_at w rest (length w) refl) ∙ ap (drop (length w)) (sym f) ∙ drop-drop (length w) c.at c.bytes.now
    ∙ rw (m.same, m.place, reached c w rest f) refl

-- the bytes behind the byte at a cursor
pub past-left : {c d : Cursor} → Past c d → left d ≡ drop 1 (left c)
past-left {c} {d} m = rw (m.same, m.place) (sym (drop-drop 1 c.at c.bytes.now))

-- one cursor behind another: past a byte, or at the same place
then-past : {c d n : Cursor} {i k : ℕ} → Moved c i k d → Past d n → Moved c (d.at + 1) k n
then-past a b = record { same = b.same ∙ a.same; place = b.place; many = b.many ∙ a.many; held = b.held ∙ a.held }

pub then-still : {c d n : Cursor} {i k : ℕ} → Moved c i k d → Moved d d.at d.atoms n → Moved c i k n
then-still a b = record { same = b.same ∙ a.same; place = b.place ∙ a.place; many = b.many ∙ a.many; held = b.held ∙ a.held }

-- and one byte further
pub then-skip : {c d n : Cursor} {k : ℕ} (rest : List ℕ) → rest ≡ left d → Moved c (length c.bytes.now - length rest) k d → Past d n → Moved c (length c.bytes.now - length (drop 1 rest)) k n
then-skip {c} {d} {n} rest h a b =
    let at-end : d.at + 1 ≡ length c.bytes.now - length (drop 1 rest) = rw (h, length-drop, length-drop) (omega (arith, long a, long b, b.place, n.inside)) in
    record { same = b.same ∙ a.same; place = b.place ∙ at-end; many = b.many ∙ a.many; held = b.held ∙ a.held }

-- a place that counts from the end is the same from the cursor behind a byte
pub from-behind : {c n d : Cursor} (k j : ℕ) → Past c n → Moved n (length n.bytes.now - k) (n.atoms + j) d → Moved c (length c.bytes.now - k) (c.atoms + j) d
from-behind k j en m =
    let same = long en in
    record { same = m.same ∙ en.same; place = m.place ∙ rw same refl; many = m.many ∙ rw en.many refl; held = m.held ∙ en.held }

module _ (m : Mode) (c : Cursor) (moves moves' : Moves) where
  pub view : (r : Cursor × Shape) → Reads m c moves (Some r) moves' → (f : ℕ) → room m (length c.bytes.now - c.at) ≤ f → View m c moves r moves' f
  view r h f g = go (read_expr f m (left c)) refl (h f g)
    where
      go : (y : Parsed Expr) → read_expr f m (left c) ≡ y → Done c moves (Some r) moves' y → View m c moves r moves' f
      go (parsed t rest) q made =
          let (w, split, enough) = bytes_of f m (left c) rest t (line-drop c.at c.bytes.now c.clean) q in
          let some : 1 ≤ atoms t = atoms-some t in
          record { expr = t; rest = rest; reading = q; made = made; here = behind c r.0 w rest split made.moved; on = omega (arith, made.moved.place, reached c w rest split) }
      go fault q i = absurd i

  pub unread : Reads m c moves None moves' → (f : ℕ) → room m (length c.bytes.now - c.at) ≤ f → read_expr f m (left c) ≡ fault
  unread h f g = go (read_expr f m (left c)) refl (h f g)
    where
      go : (y : Parsed Expr) → read_expr f m (left c) ≡ y → Done c moves None moves' y → read_expr f m (left c) ≡ fault
      go (parsed t rest) q i = absurd i
      go fault q i = q

  -- What the calls in the cycle ask of a part that was read: each reads on with less room.
  module _ (d : Cursor) (p : Shape) (h : Reads m c moves (Some (d, p)) moves') where
    seen : View m c moves (d, p) moves' (room m (length c.bytes.now - c.at))
    seen = view (d, p) h (room m (length c.bytes.now - c.at)) (le_refl (room m (length c.bytes.now - c.at)))

    pub read_small : p.last < 2 ^ 32
    read_small = rw seen.made.shape (word_lt 32 (λ q. atom_state (last c.atoms seen.expr) q))

    -- on with the pieces of a branch
    pub on-falls : (t : ℕ) → room Mode.branch (length c.bytes.now - c.at) ≡ t → room Mode.branch (length d.bytes.now - d.at) < t
    on-falls t h = omega (arith, seen.on, d.inside, long seen.made.moved)

    -- behind a bar
    pub bar-falls : (n : Cursor) → Past d n → (t : ℕ) → room Mode.alts (length c.bytes.now - c.at) ≡ t → room Mode.alts (length n.bytes.now - n.at) < t
    bar-falls n m t h = omega (arith, seen.on, n.inside, m.place, long m, long seen.made.moved)

-- every bound is some depth
room-some : (m : Mode) (k : ℕ) → 1 ≤ room m k
room-some Mode.alts k = omega arith
room-some Mode.branch k = omega arith
room-some Mode.piece k = omega arith
room-some Mode.group k = omega arith

-- so it is enough to know what they answer where they may call each other at least one deep
abbrev Deeper : Mode → Cursor → Moves → Part → Moves → Type 0
Deeper m c moves x moves' = (k : ℕ) → room m (length c.bytes.now - c.at) ≤ suc k → ReadsIn (suc k) m c moves x moves'

deeper : (m : Mode) (c : Cursor) (moves : Moves) (x : Part) (moves' : Moves) → Deeper m c moves x moves' → Reads m c moves x moves'
deeper m c moves x moves' h zero g = absurd (never (room-some m (length c.bytes.now - c.at)) g)
  where
    never : {n : ℕ} → 1 ≤ n → n ≤ 0 → ⊥
    never a b = omega arith
deeper m c moves x moves' h (suc k) g = h k g

-- the shapes of two expressions together
shape-alt : (b : ℕ) (p q : Expr) → alt_shape (shape_of b p) (shape_of (b + atoms p) q) ≡ shape_of b (alt p q)
unfolding nothing
shape-alt b p q = rw (first-alt b p q, last-alt b p q)

shape-seq : (b : ℕ) (p q : Expr) → seq_shape (shape_of b p) (shape_of (b + atoms p) q) ≡ shape_of b (seq p q)
unfolding nothing
shape-seq b p q = rw (first-seq b p q, last-seq b p q)

-- two expressions were read, the second from the cursor n on: the answer for both
module _ {c n d2 : Cursor} {e1 e2 : Expr} {rest : List ℕ} {i : ℕ} (to : Moved c i (c.atoms + atoms e1) n) {d : Cursor} {p1 p2 : Shape} {mid : List ℕ} {moves moves' moves'' : Moves} (one : Made c e1 mid moves (d, p1) moves') (two : Made n e2 rest moves' (d2, p2) moves'') where
  place-two : Moved c (length c.bytes.now - length rest) (c.atoms + (atoms e1 + atoms e2)) d2
  place-two = record { same = two.moved.same ∙ to.same; place = two.moved.place ∙ rw (long to) refl; many = two.moved.many ∙ rw (to.many, add_assoc); held = two.moved.held ∙ to.held }

  done-alt : (q : Shape) → q ≡ alt_shape p1 p2 → Made c (alt e1 e2) rest moves (d2, q) moves''
  unfolding atoms
  done-alt q e =
      record {
        moved = place-two;
        shape = e ∙ rw (one.shape, two.shape, to.many) (shape-alt c.atoms e1 e2);
        keyed = two.keyed ∙ rw (to.many, to.held, one.keyed) (keys-alt c.atoms e1 e2 (set_of c.case) moves.keys);
        entered = two.entered ∙ rw (to.many, one.entered) (enter-alt c.atoms e1 e2 moves.enter);
      }

  done-seq : (q : Shape) (after : Moves) → q ≡ seq_shape p1 p2 → after.keys ≡ moves''.keys → after.enter ≡ linked p1.last p2.first moves''.enter → Made c (seq e1 e2) rest moves (d2, q) after
  unfolding atoms
  done-seq q after e k f =
      record {
        moved = place-two;
        shape = e ∙ rw (one.shape, two.shape, to.many) (shape-seq c.atoms e1 e2);
        keyed = k ∙ two.keyed ∙ rw (to.many, to.held, one.keyed) (keys-seq c.atoms e1 e2 (set_of c.case) moves.keys);
        entered = f ∙ rw (one.shape, two.shape, two.entered, to.many, one.entered) (enter-seq c.atoms e1 e2 moves.enter);
      }

module _ (c : Cursor) (moves : Moves) where
  -- an alternative list
  module _ (moves' : Moves) where
    pub alts-fault : Reads Mode.branch c moves None moves' → Reads Mode.alts c moves None moves'
    unfolding read_expr
    alts-fault h = deeper Mode.alts c moves None moves' (λ k g. rw (unread Mode.branch c moves moves' h k (omega arith)) (record {}))

    module _ (d : Cursor) (p : Shape) (h : Reads Mode.branch c moves (Some (d, p)) moves') (b : ℕ) (eb : b ≡ byte_at d) where
      -- what the answer says of the first branch
      abbrev FirstBranch : ℕ → Type 0
      FirstBranch k = View Mode.branch c moves (d, p) moves' k

      pub alts-one : (b ≡ 124 → ⊥) → Reads Mode.alts c moves (Some (d, p)) moves'
      unfolding read_expr
      alts-one n = deeper Mode.alts c moves (Some (d, p)) moves' (λ k g. go k (view Mode.branch c moves moves' (d, p) h k (omega arith)))
        where
          go : (k : ℕ) (v : FirstBranch k) → ReadsIn (suc k) Mode.alts c moves (Some (d, p)) moves'
          go k v = rw (v.reading, byte-behind d v.here eb, ne_eqb _ _ n) v.made

      module _ (n : Cursor) (moves'' : Moves) (en : Past d n) (bar : b ≡ 124) where
        -- less room is enough behind the bar
        less : {k : ℕ} → room Mode.alts (length c.bytes.now - c.at) ≤ suc k → FirstBranch k → room Mode.alts (length n.bytes.now - n.at) ≤ k
        less g v = omega (arith, v.on, n.inside, en.place, long en, long v.made.moved)

        -- the bytes behind it
        over : {k : ℕ} (v : FirstBranch k) → drop 1 v.rest ≡ left n
        over v = ap (drop 1) v.here ∙ sym (past-left en)

        pub alts-more-fault : Reads Mode.alts n moves' None moves'' → Reads Mode.alts c moves None moves''
        unfolding read_expr
        alts-more-fault hn = deeper Mode.alts c moves None moves'' (λ k g. go k g (view Mode.branch c moves moves' (d, p) h k (omega arith)))
          where
            go : (k : ℕ) → room Mode.alts (length c.bytes.now - c.at) ≤ suc k → (v : FirstBranch k) → ReadsIn (suc k) Mode.alts c moves None moves''
            go k g v = rw (v.reading, byte-behind d v.here eb, bar, over v, unread Mode.alts n moves' moves'' hn k (less g v)) (record {})

        pub alts-more : (d2 : Cursor) (p2 q : Shape) → Reads Mode.alts n moves' (Some (d2, p2)) moves'' → q ≡ alt_shape p p2 → Reads Mode.alts c moves (Some (d2, q)) moves''
        unfolding read_expr
        alts-more d2 p2 q hn e = deeper Mode.alts c moves (Some (d2, q)) moves'' (λ k g. go k g (view Mode.branch c moves moves' (d, p) h k (omega arith)))
          where
            both : (k : ℕ) (v : FirstBranch k) → View Mode.alts n moves' (d2, p2) moves'' k → ReadsIn (suc k) Mode.alts c moves (Some (d2, q)) moves''
            both k v w = rw (v.reading, byte-behind d v.here eb, bar, over v, w.reading) (done-alt (then-past v.made.moved en) v.made w.made q e)

            go : (k : ℕ) → room Mode.alts (length c.bytes.now - c.at) ≤ suc k → (v : FirstBranch k) → ReadsIn (suc k) Mode.alts c moves (Some (d2, q)) moves''
            go k g v = both k v (view Mode.alts n moves' moves'' (d2, p2) hn k (less g v))

  -- a branch
  module _ (moves' : Moves) where
    pub branch-fault : Reads Mode.piece c moves None moves' → Reads Mode.branch c moves None moves'
    unfolding read_expr
    branch-fault h = deeper Mode.branch c moves None moves' (λ k g. rw (unread Mode.piece c moves moves' h k (omega arith)) (record {}))

    module _ (d : Cursor) (p : Shape) (h : Reads Mode.piece c moves (Some (d, p)) moves') (b : ℕ) (eb : b ≡ byte_at d) (t : Bool) (et : t ≡ ends_pieces b) where
      -- what the answer says of the first piece
      abbrev FirstPiece : ℕ → Type 0
      FirstPiece k = View Mode.piece c moves (d, p) moves' k

      pub branch-last : t ≡ true → Reads Mode.branch c moves (Some (d, p)) moves'
      unfolding read_expr
      branch-last n = deeper Mode.branch c moves (Some (d, p)) moves' (λ k g. go k (view Mode.piece c moves moves' (d, p) h k (omega arith)))
        where
          go : (k : ℕ) (v : FirstPiece k) → ReadsIn (suc k) Mode.branch c moves (Some (d, p)) moves'
          go k v = rw (v.reading, byte-behind d v.here eb, ← et, n) v.made

      module _ (moves'' : Moves) (more : t ≡ false) where
        -- less room is enough for the other pieces
        fewer : {k : ℕ} → room Mode.branch (length c.bytes.now - c.at) ≤ suc k → FirstPiece k → room Mode.branch (length d.bytes.now - d.at) ≤ k
        fewer g v = omega (arith, v.on, d.inside, long v.made.moved)

        pub branch-more-fault : Reads Mode.branch d moves' None moves'' → Reads Mode.branch c moves None moves''
        unfolding read_expr
        branch-more-fault h2 = deeper Mode.branch c moves None moves'' (λ k g. go k g (view Mode.piece c moves moves' (d, p) h k (omega arith)))
          where
            go : (k : ℕ) → room Mode.branch (length c.bytes.now - c.at) ≤ suc k → (v : FirstPiece k) → ReadsIn (suc k) Mode.branch c moves None moves''
            go k g v = rw (v.reading, byte-behind d v.here eb, ← et, more, v.here, unread Mode.branch d moves' moves'' h2 k (fewer g v)) (record {})

        pub branch-more : (d2 : Cursor) (p2 q : Shape) (after : Moves) → Reads Mode.branch d moves' (Some (d2, p2)) moves'' → after.keys ≡ moves''.keys → after.enter ≡ linked p.last p2.first moves''.enter → q ≡ seq_shape p p2 → Reads Mode.branch c moves (Some (d2, q)) after
        unfolding read_expr
        branch-more d2 p2 q after h2 u l e = deeper Mode.branch c moves (Some (d2, q)) after (λ k g. go k g (view Mode.piece c moves moves' (d, p) h k (omega arith)))
          where
            both : (k : ℕ) (v : FirstPiece k) → View Mode.branch d moves' (d2, p2) moves'' k → ReadsIn (suc k) Mode.branch c moves (Some (d2, q)) after
            both k v w = rw (v.reading, byte-behind d v.here eb, ← et, more, v.here, w.reading) (done-seq v.made.moved v.made w.made q after e u l)

            go : (k : ℕ) → room Mode.branch (length c.bytes.now - c.at) ≤ suc k → (v : FirstPiece k) → ReadsIn (suc k) Mode.branch c moves (Some (d2, q)) after
            go k g v = both k v (view Mode.branch d moves' moves'' (d2, p2) h2 k (fewer g v))

  -- a group behind its parenthesis
  module _ (moves' : Moves) where
    pub group-fault : Reads Mode.alts c moves None moves' → Reads Mode.group c moves None moves'
    unfolding read_expr
    group-fault h = deeper Mode.group c moves None moves' (λ k g. rw (unread Mode.alts c moves moves' h k (omega arith)) (record {}))

    module _ (d : Cursor) (p : Shape) (h : Reads Mode.alts c moves (Some (d, p)) moves') (b : ℕ) (eb : b ≡ byte_at d) where
      pub group-open : (b ≡ 41 → ⊥) → Reads Mode.group c moves None moves'
      unfolding read_expr
      group-open n = deeper Mode.group c moves None moves' (λ k g. go k (view Mode.alts c moves moves' (d, p) h k (omega arith)))
        where
          go : (k : ℕ) (v : View Mode.alts c moves (d, p) moves' k) → ReadsIn (suc k) Mode.group c moves None moves'
          go k v = rw (v.reading, byte-behind d v.here eb, ne_eqb _ _ n) (record {})

      pub group-closed : (n : Cursor) → Past d n → b ≡ 41 → Reads Mode.group c moves (Some (n, p)) moves'
      unfolding read_expr atoms nothing first last follow holds
      group-closed n en e = deeper Mode.group c moves (Some (n, p)) moves' (λ k g. go k (view Mode.alts c moves moves' (d, p) h k (omega arith)))
        where
          go : (k : ℕ) (v : View Mode.alts c moves (d, p) moves' k) → ReadsIn (suc k) Mode.group c moves (Some (n, p)) moves'
          go k v = rw (v.reading, byte-behind d v.here eb, e) (record { moved = then-skip v.rest v.here v.made.moved en; shape = v.made.shape; keyed = v.made.keyed; entered = v.made.entered })

-- what a mark behind a part makes of its place, of it and of the table of states, by the tests for `*`, `+` and `?`
abbrev MarkedBy : Bool → Bool → Bool → Cursor → Shape → Cursor × Shape → Type 0
MarkedBy t u w d p r = Moved d (cond (t || (u || w)) (d.at + 1) d.at) d.atoms r.0 × (r.1 ≡ cond (t || w) (record { nothing = true; first = p.first; last = p.last }) p)

abbrev enter_by : Bool → Bool → Shape → List ℕ → List ℕ
enter_by t u p enter = cond (t || u) (linked p.last p.first enter) enter

-- an atom or a group was read, and a mark of repetition or none stands behind it
module _ {rest : List ℕ} {moves moves' : Moves} {c d : Cursor} {e : Expr} {p : Shape} (here : rest ≡ left d) (made : Made c e rest moves (d, p) moves') where
  done-repeat : (r : Cursor × Shape) (after : Moves) → Repeats d p r → after.keys ≡ moves'.keys → after.enter ≡ repeat_enter (byte_at d) p moves'.enter → Done c moves (Some r) after (read_repeat e rest)
  unfolding read_repeat atoms nothing first last follow holds
  done-repeat r after er ek ea = rw (byte-behind d here refl) (go (eqb (byte_at d) 42) (eqb (byte_at d) 43) (eqb (byte_at d) 63) refl refl er ea)
    where
      two : {m : ℕ} → m ≡ 43 → m ≡ 63 → ⊥
      two f g = omega arith

      on : Past d r.0 → Moved c (length c.bytes.now - length (drop 1 rest)) (c.atoms + atoms e) r.0
      on v = then-skip rest here made.moved v

      go : (t u w : Bool) → eqb (byte_at d) 43 ≡ u → eqb (byte_at d) 63 ≡ w → MarkedBy t u w d p r → after.enter ≡ enter_by t u p moves'.enter → Done c moves (Some r) after (marked_by t u w e rest)
      go true u w j k (m, q) g = record { moved = on m; shape = q ∙ rw made.shape refl; keyed = ek ∙ made.keyed; entered = g ∙ rw (made.shape, made.entered) (enter-again c.atoms e moves.enter) }
      go false true true j k (m, q) g = absurd (two (eqb-true _ 43 j) (eqb-true _ 63 k))
      go false true false j k (m, q) g = record { moved = on m; shape = q ∙ rw made.shape refl; keyed = ek ∙ made.keyed; entered = g ∙ rw (made.shape, made.entered) (enter-again c.atoms e moves.enter) }
      go false false true j k (m, q) g = record { moved = on m; shape = q ∙ rw made.shape refl; keyed = ek ∙ made.keyed; entered = g ∙ made.entered }
      go false false false j k (m, q) g = record { moved = then-still made.moved m; shape = q ∙ made.shape; keyed = ek ∙ made.keyed; entered = g ∙ made.entered }

-- a part that was read from the cursor behind a byte is read from the byte's own
from-past : {c n : Cursor} {e : Expr} {rest : List ℕ} {moves moves' : Moves} {r : Cursor × Shape} → Past c n → Made n e rest moves r moves' → Made c e rest moves r moves'
from-past en v =
    record {
      moved = from-behind _ _ en v.moved;
      shape = v.shape ∙ rw en.many refl;
      keyed = v.keyed ∙ rw (en.many, en.held) refl;
      entered = v.entered ∙ rw en.many refl;
    }

-- an atom was read
module _ {c : Cursor} {keys' : List ℕ} {r : Cursor × Shape} {a : Atom} {rest : List ℕ} where
  atom-made : (moves : Moves) → AtomMade c a rest moves.keys r keys' → Made c (atom a) rest moves r (record { keys = keys'; enter = moves.enter })
  unfolding atoms
  atom-made moves v = record { moved = v.moved; shape = v.shape; keyed = v.keyed; entered = enter-atom c.atoms a moves.enter }

  atom-behind : {keys : List ℕ} → read_atom (left c) ≡ parsed a rest → AtomMade c a rest keys r keys' → rest ≡ left r.0
  atom-behind q v = behind c r.0 (write_atom a) rest (atom-from (left c) rest a (line-drop c.at c.bytes.now c.clean) q).0 v.moved

module _ (c : Cursor) (moves : Moves) (b : ℕ) (eb : b ≡ byte_at c) where
  opened : at 0 (left c) ≡ b
  opened = byte-behind c refl eb

  -- a piece that is a group
  module _ (paren : b ≡ 40) (n : Cursor) (en : Past c n) (moves' : Moves) where
    -- less room is enough behind the parenthesis
    inner : {k : ℕ} → room Mode.piece (length c.bytes.now - c.at) ≤ suc k → room Mode.group (length n.bytes.now - n.at) ≤ k
    inner g = omega (arith, n.inside, en.place, long en)

    pub piece-fault : Reads Mode.group n moves None moves' → Reads Mode.piece c moves None moves'
    unfolding read_expr
    piece-fault hn = deeper Mode.piece c moves None moves' (λ k g. rw (opened, paren, ← past-left en, unread Mode.group n moves moves' hn k (inner g)) (record {}))

    module _ (d : Cursor) (p : Shape) (hn : Reads Mode.group n moves (Some (d, p)) moves') where
      pub piece-group : (r : Cursor × Shape) (after : Moves) → Repeats d p r → after.keys ≡ moves'.keys → after.enter ≡ repeat_enter (byte_at d) p moves'.enter → Reads Mode.piece c moves (Some r) after
      unfolding read_expr
      piece-group r after er ek ea = deeper Mode.piece c moves (Some r) after (λ k g. go k (view Mode.group n moves moves' (d, p) hn k (inner g)))
        where
          go : (k : ℕ) (v : View Mode.group n moves (d, p) moves' k) → ReadsIn (suc k) Mode.piece c moves (Some r) after
          go k v = rw (opened, paren, ← past-left en, v.reading) (done-repeat v.here (from-past en v.made) r after er ek ea)

  -- a piece that is an atom
  module _ (plain-one : b ≡ 40 → ⊥) where
    pub piece-atom-fault : (moves' : Moves) → ReadsAtom c moves.keys None moves'.keys → Reads Mode.piece c moves None moves'
    unfolding read_expr
    piece-atom-fault moves' h = deeper Mode.piece c moves None moves' (λ k g. rw (opened, ne_eqb _ _ plain-one) (go (read_atom (left c)) h))
      where
        go : (y : Parsed Atom) → AtomDone c moves.keys None moves'.keys y → Done c moves None moves' (next (next y (λ a. done (atom a))) read_repeat)
        go (parsed a rest) i = absurd i
        go fault i = record {}

    pub piece-atom : (d : Cursor) (p : Shape) (keys' : List ℕ) (r : Cursor × Shape) (after : Moves) → ReadsAtom c moves.keys (Some (d, p)) keys' → Repeats d p r → after.keys ≡ keys' → after.enter ≡ repeat_enter (byte_at d) p moves.enter → Reads Mode.piece c moves (Some r) after
    unfolding read_expr
    piece-atom d p keys' r after h er ek ea = deeper Mode.piece c moves (Some r) after (λ k g. rw (opened, ne_eqb _ _ plain-one) (go (read_atom (left c)) refl h))
      where
        go : (z : Parsed Atom) → read_atom (left c) ≡ z → AtomDone c moves.keys (Some (d, p)) keys' z → Done c moves (Some r) after (next (next z (λ a. done (atom a))) read_repeat)
        go (parsed a rest) q v = done-repeat (atom-behind q v) (atom-made moves v) r after er ek ea
        go fault q i = absurd i

-- a group is read with less room than the piece that it is
pub paren-falls : (c n : Cursor) → Past c n → (t : ℕ) → room Mode.piece (length c.bytes.now - c.at) ≡ t → room Mode.group (length n.bytes.now - n.at) < t
paren-falls c n en t h = omega (arith, n.inside, en.place, long en)

-- an atom leaves a small word
pub atom-small : (c : Cursor) (keys keys' : List ℕ) (d : Cursor) (p : Shape) → ReadsAtom c keys (Some (d, p)) keys' → p.last < 2 ^ 32
atom-small c keys keys' d p h = go (read_atom (left c)) h
  where
    go : (z : Parsed Atom) → AtomDone c keys (Some (d, p)) keys' z → p.last < 2 ^ 32
    go (parsed a rest) v = rw v.shape (word_lt 32 (λ q. atom_state (last c.atoms (atom a)) q))
    go fault i = absurd i
