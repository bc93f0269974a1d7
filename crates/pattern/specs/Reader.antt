-- The reader of patterns: the tree of some bytes, or none. A pattern holds no byte 0, so a 0 here stands for the end.
use Rattle.std.specs.Prelude.{ℕ, zero, suc, ◌+◌, ◌*◌, Bool, true, false, ◌&&◌, ◌||◌, cond, List, [], ◌∷◌, leb, eqb, length, drop}
use Rattle.std.proofs.Math.Option.{Option, none, some}
use Rattle.refusal.specs.declared.Refusal.{Refusal}
use Rattle.refusal.specs.declared.Refusal.TheVariants.{PatternLength, PatternSyntax, TooManyAtoms}
use Rattle.brackets.specs.Brackets.{Parsed, Parser, at, done, fault, next, parsed, read_atom}
use Rattle.pattern.specs.Form.{Expr, atom, star, plus, opt, seq, alt, Branch, Pattern, atom_count}
use Rattle.runs.specs.Keys.{is_line}

-- "then at most one of `*` `+` `?`"
unfoldable pub read_repeat : Expr → Parser Expr
read_repeat e l =
    cond (eqb (at 0 l) 42) (parsed (star e) (drop 1 l))
    (cond (eqb (at 0 l) 43) (parsed (plus e) (drop 1 l))
    (cond (eqb (at 0 l) 63) (parsed (opt e) (drop 1 l)) (parsed e l)))

-- what ends the pieces of a branch: the end, `|`, `)` or `$`
abbrev pub ends_pieces : ℕ → Bool
ends_pieces b = eqb b 0 || (eqb b 124 || (eqb b 41 || eqb b 36))

-- the four readers that read each other in a cycle: an alternative list, a branch of it, a piece, and a group after its opening parenthesis
pub data Mode : Type 0 where
  alts branch piece group : Mode

-- f bounds how deep they call each other
unfoldable pub read_expr : ℕ → Mode → Parser Expr
read_expr zero m l = fault
read_expr (suc f) Mode.alts l =
    next (read_expr f Mode.branch l) (λ p m. cond (eqb (at 0 m) 124) (next (read_expr f Mode.alts (drop 1 m)) (λ q. done (alt p q))) (parsed p m))
read_expr (suc f) Mode.branch l =
    next (read_expr f Mode.piece l) (λ p m. cond (ends_pieces (at 0 m)) (parsed p m) (next (read_expr f Mode.branch m) (λ q. done (seq p q))))
read_expr (suc f) Mode.piece l =
    next (cond (eqb (at 0 l) 40) (read_expr f Mode.group (drop 1 l)) (next (read_atom l) (λ a. done (atom a)))) read_repeat
read_expr (suc f) Mode.group l =
    next (read_expr f Mode.alts l) (λ e m. cond (eqb (at 0 m) 41) (parsed (Expr.group e) (drop 1 m)) fault)

-- a bound that is always enough for some bytes
abbrev pub enough : List ℕ → ℕ
enough l = 4 * length l + 4

-- a branch with its end, where t tells whether it is a `$`
abbrev pub ended_by : Bool → Bool → Option Expr → Parser Branch
ended_by t s e m = cond t (parsed (record { start = s; pieces = e; end = true }) (drop 1 m)) (parsed (record { start = s; pieces = e; end = false }) m)

-- "A branch is an optional `^`, pieces, an optional `$`; with no anchor it needs a piece."
abbrev pub anchored : Bool → Option Expr → Parser Branch
anchored s e m = ended_by (eqb (at 0 m) 36) s e m

abbrev pub read_rest : Bool → Parser Branch
read_rest s l =
    cond (ends_pieces (at 0 l)) (cond (s || eqb (at 0 l) 36) (anchored s none l) fault)
    (next (read_expr (enough l) Mode.branch l) (λ e. anchored s (some e)))

unfoldable pub read_branch : Parser Branch
read_branch l = cond (eqb (at 0 l) 94) (read_rest true (drop 1 l)) (read_rest false l)

-- "one or more branches parted by `|`", up to the end; f bounds how many there are
unfoldable pub read_branches : ℕ → Parser Pattern
read_branches zero l = fault
read_branches (suc f) l =
    next (read_branch l) (λ b m. cond (eqb (at 0 m) 0) (parsed (b ∷ []) m) (cond (eqb (at 0 m) 124) (next (read_branches f (drop 1 m)) (λ bs. done (b ∷ bs))) fault))

-- The whole: 7, "0 or over 128"; then 8, "not of the form above", over the whole pattern, "none of them 0 or 10"; then 9, "over 29".

pub data Read : Type 0 where
  accepted : Pattern → Read
  refused : Refusal → Read

abbrev pub counted : Parsed Pattern → Read
counted (parsed t l) = cond (leb (atom_count t) 29) (accepted t) (refused TooManyAtoms)
counted fault = refused PatternSyntax

unfoldable pub read_pattern : List ℕ → Read
read_pattern l =
    cond (leb 1 (length l) && leb (length l) 128)
    (cond (is_line l) (counted (read_branches (length l) l)) (refused PatternSyntax))
    (refused PatternLength)
