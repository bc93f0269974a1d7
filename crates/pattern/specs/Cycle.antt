-- What the readers that read each other in a cycle promise: the tree of the bytes at the cursor, in the form of its shape and tables.
use Rattle.std.specs.Prelude.{ℕ, ◌+◌, ◌-◌, ◌*◌, ◌≤◌, ◌≡◌, ⊤, true, ◌||◌, cond, List, eqb, length, drop, get_or, Option, Some, None}
use Rattle.letters.specs.declared.Case.{Case}
use Rattle.pattern.specs.declared.cursor.Cursor.{Cursor}
use Rattle.pattern.specs.declared.shape.Moves.{Moves}
use Rattle.pattern.specs.declared.shape.Shape.{Shape}
use Rattle.brackets.specs.Form.{Atom}
use Rattle.brackets.specs.Sets.{set_of}
use Rattle.brackets.specs.Brackets.{Parsed, parsed, fault, read_atom}
use Rattle.pattern.specs.Reader.{Mode, read_expr}
use Rattle.pattern.specs.Tables.{keys_after, enter_after, linked, shape_of}
use Rattle.pattern.specs.Form.{Expr, atom, atoms}

-- the cursor at the start of the bytes s
pub record Starts (s : List ℕ) (case : Case) (c : Cursor) : Type 0 where
  pub bytes : c.bytes.now ≡ s
  pub start : c.at ≡ 0
  pub none : c.atoms ≡ 0
  pub held : c.case ≡ case

-- the cursor d in the pattern of c, at another place, with so many atoms before it
pub record Moved (c : Cursor) (at atoms : ℕ) (d : Cursor) : Type 0 where
  pub same : d.bytes.now ≡ c.bytes.now
  pub place : d.at ≡ at
  pub many : d.atoms ≡ atoms
  pub held : d.case ≡ c.case

-- the cursor behind the byte at c
abbrev pub Past : Cursor → Cursor → Type 0
Past c d = Moved c (c.at + 1) c.atoms d

-- the bytes from a cursor on
abbrev pub left : Cursor → List ℕ
left c = drop c.at c.bytes.now

-- and the byte at it, or 0 at the end
abbrev pub byte_at : Cursor → ℕ
byte_at c = get_or c.bytes.now c.at 0

-- what a reader hands out: the cursor behind what was read, and its shape; or none
abbrev pub Part : Type 0
Part = Option (Cursor × Shape)

-- the expression e was read at cursor c, up to the bytes `rest`: its shape, and what it makes of the tables
pub record Made (c : Cursor) (e : Expr) (rest : List ℕ) (t : Moves) (r : Cursor × Shape) (t' : Moves) : Type 0 where
  pub moved : Moved c (length c.bytes.now - length rest) (c.atoms + atoms e) r.0
  pub shape : r.1 ≡ shape_of c.atoms e
  pub keyed : t'.keys ≡ keys_after (set_of c.case) c.atoms e t.keys
  pub entered : t'.enter ≡ enter_after c.atoms e t.enter

-- what a reader at cursor c answers, and what it makes of the tables
abbrev pub Done : Cursor → Moves → Part → Moves → Parsed Expr → Type 0
Done c t (Some r) t' (parsed e rest) = Made c e rest t r t'
Done c t (Some r) t' fault = ⊥
Done c t None t' (parsed e rest) = ⊥
Done c t None t' fault = ⊤

-- a bound on how deep the readers call each other, where k bytes are left
abbrev pub room : Mode → ℕ → ℕ
room Mode.alts k = 4 * k + 3
room Mode.branch k = 4 * k + 2
room Mode.piece k = 4 * k + 1
room Mode.group k = 4 * k + 4

-- the answer at cursor c, where the readers may call each other f deep
abbrev pub ReadsIn : ℕ → Mode → Cursor → Moves → Part → Moves → Type 0
ReadsIn f m c t r t' = Done c t r t' (read_expr f m (left c))

-- and within every bound that is large enough
abbrev pub Reads : Mode → Cursor → Moves → Part → Moves → Type 0
Reads m c t r t' = (f : ℕ) → room m (length c.bytes.now - c.at) ≤ f → ReadsIn f m c t r t'

-- an atom: no state may enter anything more
pub record AtomMade (c : Cursor) (a : Atom) (rest : List ℕ) (keys : List ℕ) (r : Cursor × Shape) (keys' : List ℕ) : Type 0 where
  pub moved : Moved c (length c.bytes.now - length rest) (c.atoms + 1) r.0
  pub shape : r.1 ≡ shape_of c.atoms (atom a)
  pub keyed : keys' ≡ keys_after (set_of c.case) c.atoms (atom a) keys

abbrev pub AtomDone : Cursor → List ℕ → Part → List ℕ → Parsed Atom → Type 0
AtomDone c keys (Some r) keys' (parsed a rest) = AtomMade c a rest keys r keys'
AtomDone c keys (Some r) keys' fault = ⊥
AtomDone c keys None keys' (parsed a rest) = ⊥
AtomDone c keys None keys' fault = ⊤

-- the answer at cursor c
abbrev pub ReadsAtom : Cursor → List ℕ → Part → List ℕ → Type 0
ReadsAtom c keys r keys' = AtomDone c keys r keys' (read_atom (left c))

-- a repetition mark b, or none: the shape, the table and the place after it
abbrev pub repeat_shape : ℕ → Shape → Shape
repeat_shape b p = cond (eqb b 42 || eqb b 63) (record { nothing = true; first = p.first; last = p.last }) p

abbrev pub repeat_enter : ℕ → Shape → List ℕ → List ℕ
repeat_enter b p enter = cond (eqb b 42 || eqb b 43) (linked p.last p.first enter) enter

abbrev pub repeat_at : ℕ → ℕ → ℕ
repeat_at b at = cond (eqb b 42 || (eqb b 43 || eqb b 63)) (at + 1) at

-- a part that was read up to the cursor c, with the mark behind it, or none
abbrev pub Repeats : Cursor → Shape → Cursor × Shape → Type 0
Repeats c p r = Moved c (repeat_at (byte_at c) c.at) c.atoms r.0 × (r.1 ≡ repeat_shape (byte_at c) p)
