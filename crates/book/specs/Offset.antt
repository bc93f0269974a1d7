-- Where the macros of a book stand among its bytes.
use Rattle.std.specs.Prelude.{ℕ, ◌+◌, ◌*◌, List, [], ◌∷◌, length, get_or, take, drop}
use Rattle.book.specs.Format.{Macro, width}

-- the bytes of a macro: "a two-byte item count .. and that many .. items", of so many bytes each
abbrev pub size : ℕ → Macro → ℕ
size wide m = 2 + wide * length m

-- where each macro starts, the first of them at `at`, and where the last one ends
unfoldable pub starts : ℕ → ℕ → List Macro → List ℕ
starts wide at [] = at ∷ []
starts wide at (m ∷ ms) = at ∷ starts wide (at + size wide m) ms

-- where macro i starts, or where the last one ends, if the first one starts at `at`
abbrev pub start_of : ℕ → ℕ → List Macro → ℕ → ℕ
start_of wide at ms i = get_or (starts wide at ms) i 0

-- and so in a book of a version with these macros: the header has 7 bytes
abbrev pub offset : ℕ → List Macro → ℕ → ℕ
offset version ms i = start_of (width version) 7 ms i

-- "The body of a macro, its items without the count, is answered as that part of the lent book."
abbrev pub body_part : ℕ → List ℕ → List Macro → ℕ → List ℕ
body_part version b ms m = take (width version * length (get_or ms m [])) (drop (offset version ms m + 2) b)
