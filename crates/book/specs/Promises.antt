-- What private functions promise each other; no public contract cites these.
use Rattle.std.specs.Prelude.{ℕ, ◌-◌, ⊤, List, Result, Ok, Err, length}
use Rattle.refusal.specs.declared.Refusal.{Refusal}
use Rattle.book.specs.Format.{Macro}
use Rattle.book.specs.Reading.{Reading, got, refused}
use Rattle.book.specs.Answer.{offsets_of}

-- where reading goes on in a book of n bytes, or why it stops
abbrev pub walk_of : {A : Type 0} → ℕ → Reading A → Result ℕ Refusal
walk_of n (got a rest) = Ok (n - length rest)
walk_of n (refused r) = Err r

abbrev pub header_of : Reading ℕ → Result ℕ Refusal
header_of (got k rest) = Ok k
header_of (refused r) = Err r

-- the places of the macros that were read
abbrev pub table_of : ℕ → Reading (List Macro) → Result (List ℕ) Refusal
table_of version (got ms rest) = Ok (offsets_of version (got ms rest))
table_of version (refused r) = Err r

-- what is told of them: the table, or why there is none
abbrev pub table_told : Result ⊤ Refusal → List ℕ → Result (List ℕ) Refusal
table_told (Ok u) offsets = Ok offsets
table_told (Err r) offsets = Err r
