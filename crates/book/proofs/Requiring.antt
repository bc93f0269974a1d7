-- What is read of macro m of a book: the refusal of the book, no such macro, or the book's macros.
use Prim.Native.Nat.{ℕ, ◌<◌, ◌≤◌}
use mathlib.Core.Path.{◌≡◌, refl}
use mathlib.Core.List.{List}
use lib.ListN.{length}
use borrow.Author.Tests.{lt-ltb, le-ltb}
use Rattle.refusal.specs.declared.Refusal.{Refusal}
use Rattle.refusal.specs.declared.Refusal.TheVariants.{NoSuchMacro}
use Rattle.book.specs.Format.{Macro}
use Rattle.book.specs.Reading.{got, refused, read_book}
use Rattle.book.specs.Answer.{require_macro}

module _ (m : ℕ) (b : List ℕ) where
  pub require-refused : {r : Refusal} → read_book b ≡ refused r → require_macro m b ≡ refused r
  unfolding require_macro
  require-refused e = rw e

  module _ {ms : List Macro} {rest : List ℕ} (e : read_book b ≡ got ms rest) where
    pub require-out : length ms ≤ m → require_macro m b ≡ refused NoSuchMacro
    unfolding require_macro
    require-out h = rw (e, le-ltb _ _ h)

    pub require-in : m < length ms → require_macro m b ≡ got ms rest
    unfolding require_macro
    require-in h = rw (e, lt-ltb _ _ h)

-- it rests on what is read of the book alone
pub require-alike : (m : ℕ) (b c : List ℕ) → read_book b ≡ read_book c → require_macro m b ≡ require_macro m c
unfolding require_macro
require-alike m b c e = rw e refl
