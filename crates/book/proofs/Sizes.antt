-- How many bytes a book has at the most.
use Prim.Native.Nat.{ℕ, zero, suc, ◌+◌, ◌-◌, ◌*◌, ◌≤◌}
use native.Mathlib.Omega.{arith}
use native.Mathlib.Nat.{mul-le-mul_left}
use mathlib.Core.Path.{◌≡◌}
use mathlib.Core.List.{List, []}
use lib.ListN.{length, drop, length-drop}
use Rattle.book.specs.Format.{Macro, SoundIn, versions, width}
use Rattle.book.specs.Reading.{got, read_macro, read_macros, read_in, read_book, version_in}
use Rattle.book.proofs.Coding.{encodes-read}
use Rattle.book.proofs.ItemLaws.{width_one, width-most}
use Rattle.book.proofs.LayoutLaws.{read-with}
use Rattle.book.proofs.Readings.{more-got}
use Rattle.book.proofs.Offsets.{macro-got, whole}

-- macros that were read took two bytes each, and those of at most 64 items
macros-took : (version n k : ℕ) (b rest : List ℕ) (ms : List Macro) → read_macros version n k b ≡ got ms rest → length b ≤ (2 + width version * 64) * k + length rest
unfolding read_macros
macros-took version n zero b rest ms e = let same : b ≡ rest = cc in rw same (omega arith)
macros-took version n (suc k) b rest ms e =
    let (m, ns, mid, same, one, others) = more-got (read_macro version n b) (read_macros version (suc n) k) ms rest e in
    let (there, room, few) = macro-got version n b mid m one in
    let left : length mid ≡ length b - (2 + width version * length m) = rw there (length-drop (2 + width version * length m) b) in
    let most : width version * length m ≤ width version * 64 = mul-le-mul_left (width version) few in
    omega (arith, macros-took version (suc n) k mid rest ns others)

-- so a book that was read has no more than these and its header
book-took : (taken b : List ℕ) (ms : List Macro) (rest : List ℕ) → read_in taken b ≡ got ms rest → length b ≤ 7 + (2 + width (version_in b) * 64) * 1024
book-took taken b ms rest e =
    let w = whole taken b ms rest e in
    let took : length (drop 7 b) ≤ (2 + width (version_in b) * 64) * length ms + 0 = macros-took (version_in b) 0 (length ms) (drop 7 b) [] ms w.macros in
    let most : (2 + width (version_in b) * 64) * length ms ≤ (2 + width (version_in b) * 64) * 1024 = mul-le-mul_left (2 + width (version_in b) * 64) w.few in
    omega (arith, length-drop 7 b)

-- which is 133,127 bytes in version 1, and 264,199 in any other
pub longest-one : (taken b : List ℕ) (ms : List Macro) (rest : List ℕ) → version_in b ≡ 1 → read_in taken b ≡ got ms rest → length b ≤ 133127
longest-one taken b ms rest v e = let two : 2 ≡ width (version_in b) = width_one (version_in b) v in let took : length b ≤ 7 + (2 + 2 * 64) * 1024 = rw (← two) at (book-took taken b ms rest e) in omega arith

pub longest-in : (taken b : List ℕ) (ms : List Macro) (rest : List ℕ) → read_in taken b ≡ got ms rest → length b ≤ 264199
longest-in taken b ms rest e = omega (arith, book-took taken b ms rest e, width-most (version_in b))

pub longest-read : (b : List ℕ) (ms : List Macro) (rest : List ℕ) → read_book b ≡ got ms rest → length b ≤ 264199
longest-read b ms rest e = longest-in versions b ms rest (read-with b e)

-- 264,199 bytes are the most that a sound book has
pub longest : (taken b : List ℕ) → SoundIn taken b → length b ≤ 264199
longest taken b (v, ms, s) = longest-in taken b ms [] (encodes-read s)
