-- Texts that are put into a buffer, one behind the other.
use Rattle.std.specs.Prelude.{ℕ, ◌+◌, Bool, cond, List, [], ◌∷◌, leb, length}
use Prim.Native.Char.{code}
use Prim.Native.String as string
use Prim.Native.String.{String}
use Rattle.std.proofs.Math.Seq.{paste}

-- the bytes of a text in ASCII
abbrev pub ascii : String → List ℕ
ascii string.[] = []
ascii (string.◌∷◌ c s) = code c ∷ ascii s

-- there is room for a text from a place on
abbrev pub fits : List ℕ → ℕ → List ℕ → Bool
fits out at w = leb (at + length w) (length out)

-- the buffer with a text from a place on, or as it was where there is no room for all of it
unfoldable pub put_at : List ℕ → ℕ → List ℕ → List ℕ
put_at out at w = cond (fits out at w) (paste out at w (length w)) out

-- the place behind that text, or the same place
unfoldable pub place_after : List ℕ → ℕ → List ℕ → ℕ
place_after out at w = cond (fits out at w) (at + length w) at
