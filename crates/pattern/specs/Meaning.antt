-- Document 01, "Patterns": when a line matches. "The states below play no part in this."
use Rattle.std.specs.Prelude.{ℕ, zero, suc, ◌≡◌, Bool, true, false, ◌&&◌, ◌||◌, cond, List, [], ◌∷◌, ◌++◌, ltb, length}
use Rattle.std.proofs.Math.Option.{Option, none, some}
use Rattle.brackets.specs.Form.{Atom}
use Rattle.brackets.specs.Sets.{Sets, set_of}
use Rattle.letters.specs.declared.Case.{Case}
use Rattle.pattern.specs.Form.{Expr, atom, group, star, plus, opt, seq, alt, Branch, Pattern}

-- a pattern and the sets of its atoms: document 02, S-1, "reads the pattern with these sets"
pub record Query : Type 0 where
  pub tree : Pattern
  pub sets : Sets

-- a pattern that is asked for with case ignored, or not
abbrev pub query : Case → Pattern → Query
query c t = record { tree = t; sets = set_of c }

-- What an expression takes, whose atoms have the sets S: one rule for each sentence.
pub data Takes (S : Sets) : Expr → List ℕ → Type 0 where
  -- "an atom takes one key of its set"
  key : {a : Atom} {k : ℕ} {w : List ℕ} → S a k ≡ true → w ≡ k ∷ [] → Takes S (atom a) w
  -- "its pieces, one after another"
  after : {p q : Expr} {u v w : List ℕ} → Takes S p u → Takes S q v → w ≡ u ++ v → Takes S (seq p q) w
  -- "a group what one of its alternatives takes"
  inside : {e : Expr} {w : List ℕ} → Takes S e w → Takes S (group e) w
  left : {p q : Expr} {w : List ℕ} → Takes S p w → Takes S (alt p q) w
  right : {p q : Expr} {w : List ℕ} → Takes S q w → Takes S (alt p q) w
  -- "`*` its atom or group any number of times, none included"
  never : {e : Expr} {w : List ℕ} → w ≡ [] → Takes S (star e) w
  again : {e : Expr} {u v w : List ℕ} → Takes S e u → Takes S (star e) v → w ≡ u ++ v → Takes S (star e) w
  -- "`+` once or more"
  once : {e : Expr} {w : List ℕ} → Takes S e w → Takes S (plus e) w
  more : {e : Expr} {u v w : List ℕ} → Takes S e u → Takes S (plus e) v → w ≡ u ++ v → Takes S (plus e) w
  -- "`?` once or not at all"
  absent : {e : Expr} {w : List ℕ} → w ≡ [] → Takes S (opt e) w
  present : {e : Expr} {w : List ℕ} → Takes S e w → Takes S (opt e) w

-- "A branch with no pieces takes the empty part."
abbrev pub TakesPieces : Sets → Option Expr → List ℕ → Type 0
TakesPieces S none w = w ≡ []
TakesPieces S (some e) w = Takes S e w

-- a branch matches a part of a line, "from the start where it has `^`, to the end where it has `$`"
pub record MatchesBranch (S : Sets) (b : Branch) (line : List ℕ) : Type 0 where
  pub before : List ℕ
  pub part : List ℕ
  pub behind : List ℕ
  pub whole : line ≡ before ++ (part ++ behind)
  pub taken : TakesPieces S b.pieces part
  pub from_start : b.start ≡ true → before ≡ []
  pub to_end : b.end ≡ true → behind ≡ []

-- "A line matches if some branch matches a part of it"
pub data Matches (S : Sets) : Pattern → List ℕ → Type 0 where
  here : {b : Branch} {bs : Pattern} {line : List ℕ} → MatchesBranch S b line → Matches S (b ∷ bs) line
  later : {b : Branch} {bs : Pattern} {line : List ℕ} → Matches S bs line → Matches S (b ∷ bs) line

-- The same as a test, for contracts to cite. `rest` says whether what is left of a line will do.

-- f takes once, and then again as long as what is left grows shorter; n bounds how often
unfoldable pub repeated : ((List ℕ → Bool) → List ℕ → Bool) → (List ℕ → Bool) → ℕ → List ℕ → Bool
repeated f rest zero w = false
repeated f rest (suc n) w = f (λ v. rest v || (ltb (length v) (length w) && repeated f rest n v)) w

abbrev pub taken : Sets → Atom → (List ℕ → Bool) → List ℕ → Bool
taken S a rest [] = false
taken S a rest (k ∷ w) = S a k && rest w

unfoldable pub takes : Sets → Expr → (List ℕ → Bool) → List ℕ → Bool
takes S (atom a) rest w = taken S a rest w
takes S (group e) rest w = takes S e rest w
takes S (star e) rest w = rest w || repeated (takes S e) rest (suc (length w)) w
takes S (plus e) rest w = repeated (takes S e) rest (suc (length w)) w
takes S (opt e) rest w = rest w || takes S e rest w
takes S (seq p q) rest w = takes S p (takes S q rest) w
takes S (alt p q) rest w = takes S p rest w || takes S q rest w

abbrev pub takes_pieces : Sets → Option Expr → (List ℕ → Bool) → List ℕ → Bool
takes_pieces S none rest w = rest w
takes_pieces S (some e) rest w = takes S e rest w

abbrev pub is_end : List ℕ → Bool
is_end [] = true
is_end (k ∷ w) = false

-- what is left behind a branch will do: nothing where it has `$`, anything where not
abbrev pub allowed : Bool → List ℕ → Bool
allowed e v = cond e (is_end v) true

-- a branch from here, or from any later place of the line
unfoldable pub matches_from : Sets → Branch → List ℕ → Bool
matches_from S b [] = takes_pieces S b.pieces (allowed b.end) []
matches_from S b (k ∷ w) = takes_pieces S b.pieces (allowed b.end) (k ∷ w) || matches_from S b w

abbrev pub matches_branch : Sets → Branch → List ℕ → Bool
matches_branch S b w = cond b.start (takes_pieces S b.pieces (allowed b.end) w) (matches_from S b w)

unfoldable pub some_matches : Sets → Pattern → List ℕ → Bool
some_matches S [] w = false
some_matches S (b ∷ bs) w = matches_branch S b w || some_matches S bs w

unfoldable pub matches : Query → List ℕ → Bool
matches t w = some_matches t.sets t.tree w
