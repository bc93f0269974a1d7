-- What a book is refused for: 1 to 6 of the table and 20, and nothing else.
use Prim.Native.Nat.{ℕ, zero, suc, ◌≤◌}
use native.Mathlib.Omega.{arith}
use mathlib.Core.Path.{◌≡◌, refl}
use mathlib.Core.Logic.{◌⊎◌, inl, inr}
use mathlib.Core.Bool.{Bool, true, false, cond, ◌&&◌}
use mathlib.Core.List.{List, ◌∷◌}
use lib.Dec.{leb, ltb, eqb}
use lib.ListN.{length, drop}
use Rattle.refusal.specs.declared.Refusal.{Refusal}
use Rattle.refusal.specs.declared.Refusal.TheVariants.{BadMagic, UnsupportedVersion, BadMacroCount, MalformedBody, InvalidKey, ForwardReference, ZeroRepeatCount}
use Rattle.refusal.specs.Number.{number}
use Rattle.book.specs.declared.item.Item.{Item}
use Rattle.book.specs.declared.item.Item.TheVariants.{Key, Call}
use Rattle.runs.specs.Keys.{member}
use Rattle.book.specs.Format.{repeated, versions, width}
use Rattle.book.specs.Reading.{Reading, Reader, got, refused, next, done, le16, item_of, times_in, check_times, check_item, read_item, read_items, read_macro, read_macros, has_magic, read_header, version_in, at_end, read_all, read_in, read_book}

-- the numbers of a book's refusals, and 0
abbrev pub BookNumber : ℕ → Type 0
BookNumber n = (n ≤ 6) ⊎ (n ≡ 20)

-- a reading is got, or refused with one of them
abbrev Early : {A : Type 0} → Reading A → Type 0
Early (got a rest) = Unit {0}
Early (refused r) = BookNumber (number r)

early-next : {A B : Type 0} (g : Reading A) (f : A → Reader B) → Early g → ((a : A) (rest : List ℕ) → Early (f a rest)) → Early (next g f)
early-next (got a rest) f h k = k a rest
early-next (refused r) f h k = h

early-test : {A : Type 0} (b : Bool) (g h : Reading A) → Early g → Early h → Early (cond b g h)
early-test true g h i j = i
early-test false g h i j = j

-- elements, each by a reader
early-cons : {A : Type 0} (g : Reading A) (others : Reader (List A)) → Early g → ((b : List ℕ) → Early (others b)) → Early (next g (λ a b. next (others b) (λ xs. done (a ∷ xs))))
early-cons g others h k = early-next g (λ a b. next (others b) (λ xs. done (a ∷ xs))) h (λ a b. early-next (others b) (λ xs. done (a ∷ xs)) (k b) (λ xs rest. tt))

times-early : (i : Item) (t : ℕ) (b : List ℕ) → Early (check_times i t b)
times-early i t b = early-test (eqb t 0) (refused ZeroRepeatCount) (got (repeated i t) b) (inr refl) tt

checked-early : (n : ℕ) (i : Item) (t : ℕ) (b : List ℕ) → Early (check_item n i t b)
checked-early n (Key k) t b = early-test (eqb k 0) (refused InvalidKey) (check_times (Key k) t b) (inl (omega arith)) (times-early (Key k) t b)
checked-early n (Call j) t b = early-test (ltb j n) (check_times (Call j) t b) (refused ForwardReference) (times-early (Call j) t b) (inl (omega arith))

item-early : (v n : ℕ) (b : List ℕ) → Early (read_item v n b)
unfolding read_item
item-early v n b = early-test (ltb (length b) (width v)) (refused MalformedBody) (check_item n (item_of (le16 b)) (times_in v b) (drop (width v) b)) (inl (omega arith)) (checked-early n (item_of (le16 b)) (times_in v b) (drop (width v) b))

items-early : (v n k : ℕ) (b : List ℕ) → Early (read_items v n k b)
unfolding read_items
items-early v n zero b = tt
items-early v n (suc k) b = early-cons (read_item v n b) (read_items v n k) (item-early v n b) (items-early v n k)

macro-early : (v n : ℕ) (b : List ℕ) → Early (read_macro v n b)
unfolding read_macro
macro-early v n b =
    early-test (ltb (length b) 2) (refused MalformedBody) (cond (leb 1 (le16 b) && leb (le16 b) 64) (read_items v n (le16 b) (drop 2 b)) (refused MalformedBody)) (inl (omega arith))
    (early-test (leb 1 (le16 b) && leb (le16 b) 64) (read_items v n (le16 b) (drop 2 b)) (refused MalformedBody) (items-early v n (le16 b) (drop 2 b)) (inl (omega arith)))

macros-early : (v n k : ℕ) (b : List ℕ) → Early (read_macros v n k b)
unfolding read_macros
macros-early v n zero b = tt
macros-early v n (suc k) b = early-cons (read_macro v n b) (read_macros v (suc n) k) (macro-early v n b) (macros-early v (suc n) k)

header-early : (taken b : List ℕ) → Early (read_header taken b)
unfolding read_header
header-early taken b =
    early-test (leb 7 (length b) && has_magic b) (cond (member (le16 (drop 3 b)) taken) count (refused UnsupportedVersion)) (refused BadMagic)
    (early-test (member (le16 (drop 3 b)) taken) count (refused UnsupportedVersion)
    (early-test (leb 1 (le16 (drop 5 b)) && leb (le16 (drop 5 b)) 1024) (got (le16 (drop 5 b)) (drop 7 b)) (refused BadMacroCount) tt (inl (omega arith)))
    (inl (omega arith)))
    (inl (omega arith))
  where
    count : Reading ℕ
    count = cond (leb 1 (le16 (drop 5 b)) && leb (le16 (drop 5 b)) 1024) (got (le16 (drop 5 b)) (drop 7 b)) (refused BadMacroCount)

book-early : (taken b : List ℕ) → Early (read_in taken b)
unfolding read_in read_all
book-early taken b =
    early-next (read_header taken b) (λ k. read_all (version_in b) k) (header-early taken b)
    (λ k rest. early-next (read_macros (version_in b) 0 k rest) at_end (macros-early (version_in b) 0 k rest) (λ ms left. early-test (eqb (length left) 0) (got ms left) (refused MalformedBody) tt (inl (omega arith))))

-- a book is refused with 1 to 6, or with 20
pub book-refusals : (b : List ℕ) (r : Refusal) → read_book b ≡ refused r → BookNumber (number r)
unfolding read_book
book-refusals b r e = rw e at (book-early versions b)
