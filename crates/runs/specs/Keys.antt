-- Document 01: bytes, keys, runs of keys, and the keys of a line. The tests of lists compute wherever a list is known.
use Rattle.std.specs.Prelude.{ℕ, ◌<◌, Bool, true, false, not, ◌&&◌, ◌||◌, List, [], ◌∷◌, leb, eqb, get_or}

-- every number of the list is a byte
abbrev pub Bytes : List ℕ → Type 0
Bytes b = (i : ℕ) → get_or b i 0 < 256

-- k is one of the numbers
abbrev pub member : ℕ → List ℕ → Bool
member k [] = false
member k (b ∷ bs) = eqb k b || member k bs

-- "A key is a byte from 1 to 255"
abbrev pub is_key : ℕ → Bool
is_key k = leb 1 k && leb k 255

-- "key 10 is the line end (LF)"
abbrev pub line_end : ℕ
line_end = 10

-- a run of keys
abbrev pub is_run : List ℕ → Bool
is_run [] = true
is_run (k ∷ w) = is_key k && is_run w

-- a key that is no line end: what a line holds, and what a pattern holds, "none of them 0 or 10"
abbrev pub line_key : ℕ → Bool
line_key k = leb 1 k && (leb k 255 && not (eqb k line_end))

-- "A line is the keys between line ends"
abbrev pub is_line : List ℕ → Bool
is_line [] = true
is_line (k ∷ w) = line_key k && is_line w
