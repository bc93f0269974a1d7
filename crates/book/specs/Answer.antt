-- What each operation of the book answers, by the definitions of the book.
use Rattle.std.specs.Prelude.{ℕ, ◌+◌, ◌-◌, cond, List, [], ◌++◌, Result, Ok, Err, ltb, length, replicate}
use denote.Ref.{Bor}
use Rattle.refusal.specs.declared.Refusal.{Refusal}
use Rattle.refusal.specs.declared.Refusal.TheVariants.{NoSuchMacro}
use Rattle.refusal.specs.Number as Number
use Rattle.refusal.specs.Figures.{Figures, answered, refused_for}
use Rattle.book.specs.declared.layout.Book.{Book}
use Rattle.book.specs.Offset.{starts, body_part, offset}
use Rattle.book.specs.Format.{Macro, width}
use Rattle.book.specs.Reading.{Reading, Reader, got, refused, ◌>>=◌, read_book, version_in}

-- the check of a book: its macro count
abbrev pub checked_figures : Result ℕ Refusal → Figures ℕ
checked_figures (Ok n) = answered n
checked_figures (Err r) = refused_for r

-- and of a book that is opened
abbrev pub opened_figures : Result Book Refusal → Figures ℕ
opened_figures (Ok b) = answered b.macros
opened_figures (Err r) = refused_for r

abbrev pub check_result : Reading (List Macro) → Figures ℕ
check_result (got ms rest) = answered (length ms)
check_result (refused r) = refused_for r

-- where the macros of a book start and the last one ends, with zeros up to 1,025 numbers; zeros alone where it is refused
abbrev pub offsets_of : ℕ → Reading (List Macro) → List ℕ
offsets_of version (got ms rest) = starts (width version) 7 ms ++ replicate (1024 - length ms) 0
offsets_of version (refused r) = replicate 1025 0

-- those of a book's bytes, by its version
unfoldable pub offsets_in : List ℕ → List ℕ
offsets_in b = offsets_of (version_in b) (read_book b)

-- what opening a book answers, whole; no public contract cites it, since the figures, the table and the bytes decide it (`layout-figures`)
abbrev pub layout_for : Bor (List ℕ) → Reading (List Macro) → Result Book Refusal
layout_for s (got ms rest) = Ok (record { bytes = s; macros = length ms; offsets = offsets_of (version_in s.now) (got ms rest) })
layout_for s (refused r) = Err r

unfoldable pub layout : Bor (List ℕ) → Result Book Refusal
layout s = layout_for s (read_book s.now)

-- 10 after 1 to 6 and 20: "m not below M"
unfoldable pub require_macro : ℕ → Reader (List Macro)
require_macro m = do
  ms ← read_book
  λ rest. cond (ltb m (length ms)) (got ms rest) (refused NoSuchMacro)

-- the body of macro m, in a book of a version; "a refused body is an empty part"
abbrev pub body_of : List ℕ → ℕ → ℕ → Reading (List Macro) → List ℕ
body_of b version m (got ms rest) = body_part version b ms m
body_of b version m (refused r) = []

-- where the body of macro m stands, in a book of a version that stands at p
abbrev pub body_at : ℕ × ℕ → ℕ → ℕ → Reading (List Macro) → ℕ × ℕ
body_at p version m (got ms rest) = (p.0, offset version ms m + 2 + p.1)
body_at p version m (refused r) = p

-- "its refusal stands in a lent number (0 if accepted)"
abbrev pub refusal_of : {A : Type 0} → Reading A → ℕ
refusal_of (got a rest) = 0
refusal_of (refused r) = Number.number r
