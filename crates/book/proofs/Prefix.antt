-- No byte behind the first 264,200 of a book plays a part: what is answered to these is answered to the whole.
use Prim.Native.Nat.{ℕ, zero, suc, ◌+◌, ◌-◌, ◌*◌, ◌<◌, ◌≤◌, min}
use native.Mathlib.Omega.{arith}
use mathlib.Core.Path.{◌≡◌, refl}
use mathlib.Core.Bool.{Bool, true, false, cond, ◌&&◌}
use mathlib.Core.List.{List, [], ◌∷◌}
use lib.Dec.{leb, ltb, eqb}
use lib.ListN.{length, take, drop, get_or, length-take}
use lib.Seq.{get_or-take, get_or-drop}
use borrow.Author.Tests.{lt-ltb, le-ltb, lt-leb, le-leb, ltb-true, ltb-false, leb-true, leb-false, ne_eqb}
use Rattle.refusal.specs.declared.Refusal.{Refusal}
use Rattle.refusal.specs.declared.Refusal.TheVariants.{BadMagic, UnsupportedVersion, BadMacroCount, MalformedBody, InvalidKey, ForwardReference, ZeroRepeatCount}
use Rattle.runs.specs.Keys.{member}
use Rattle.runs.proofs.Tests.{and_parts}
use Rattle.book.specs.declared.item.Item.{Item}
use Rattle.book.specs.declared.item.Item.TheVariants.{Key, Call}
use Rattle.book.specs.Reading.{Reading, Reader, got, refused, next, done, le16, item_of, times_in, check_times, check_item, read_item, read_items, read_macro, read_macros, has_magic, read_header, version_in, at_end, read_all, read_in, read_book}
use Rattle.book.specs.Format.{repeated, versions, width}
use Rattle.book.proofs.ItemLaws.{width-least, width-most}
use Rattle.book.proofs.Header.{header-got}
use Rattle.book.proofs.MacroItems.{drop-take}

-- A first part of a list.

-- the number at a place within the part
le16-take : (k n : ℕ) (l : List ℕ) → k + 2 ≤ n → le16 (drop k (take n l)) ≡ le16 (drop k l)
le16-take k n l h =
    let low : get_or (take n l) (k + 0) 0 ≡ get_or l (k + 0) 0 = get_or-take n l (k + 0) 0 (omega arith) in
    let high : get_or (take n l) (k + 1) 0 ≡ get_or l (k + 1) 0 = get_or-take n l (k + 1) 0 (omega arith) in
    rw (get_or-drop k (take n l) 0 0, get_or-drop k (take n l) 1 0, get_or-drop k l 0 0, get_or-drop k l 1 0, low, high)

-- whether there are k bytes
few-take : (k n : ℕ) (l : List ℕ) → k ≤ n → ltb (length (take n l)) k ≡ ltb (length l) k
few-take k n l h = rw (length-take n l) (go (ltb (length l) k) refl)
  where
    go : (b : Bool) → ltb (length l) k ≡ b → ltb (min n (length l)) k ≡ b
    go true e = let i = ltb-true (length l) k e in lt-ltb (min n (length l)) k (omega arith)
    go false e = let i = ltb-false (length l) k e in le-ltb (min n (length l)) k (omega arith)

many-take : (k n : ℕ) (l : List ℕ) → k ≤ n → leb k (length (take n l)) ≡ leb k (length l)
many-take k n l h = rw (length-take n l) (go (leb k (length l)) refl)
  where
    go : (b : Bool) → leb k (length l) ≡ b → leb k (min n (length l)) ≡ b
    go true e = let i = leb-true k (length l) e in le-leb k (min n (length l)) (omega arith)
    go false e = let i = leb-false k (length l) e in lt-leb k (min n (length l)) (omega arith)

-- What is read of the first n bytes, and of all of them: the same refusal, or the same thing with a first part of the same rest. At
-- most k bytes were taken.
abbrev Agrees : {A : Type 0} → ℕ → ℕ → Reading A → Reading A → Type 0
Agrees k n short (refused r) = short ≡ refused r
Agrees k n short (got a rest) = (m : ℕ) × (n ≤ k + m) × (short ≡ got a (take m rest))

-- a reader takes at most k bytes, and looks at no others
abbrev Within : {A : Type 0} → ℕ → Reader A → Type 0
Within k f = (n : ℕ) (b : List ℕ) → k ≤ n → Agrees k n (f (take n b)) (f b)

-- so it does not take more than a larger number, of more bytes
agrees-more : {A : Type 0} (j k m n : ℕ) → n + j ≤ k + m → (short whole : Reading A) → Agrees j m short whole → Agrees k n short whole
agrees-more j k m n le short (refused r) e = e
agrees-more j k m n le short (got a rest) (i, l, e) = (i, omega arith, e)

-- one reader after the other
module _ {A B : Type 0} (j k n : ℕ) (f : A → Reader B) (inside : (a : A) → Within k (f a)) (room : j + k ≤ n) where
  agrees-next : (short whole : Reading A) → Agrees j n short whole → Agrees (j + k) n (next short f) (next whole f)
  agrees-next short (refused r) e = rw e refl
  agrees-next short (got a rest) (m, l, e) = rw e (agrees-more k (j + k) m n (omega arith) (f a (take m rest)) (f a rest) (inside a m rest (omega arith)))

-- a test that does not rest on bytes behind the part
module _ {A : Type 0} (k n : ℕ) (short whole : Reading A) (r : Refusal) where
  agrees-test : (b : Bool) → (b ≡ true → Agrees k n short whole) → Agrees k n (cond b short (refused r)) (cond b whole (refused r))
  agrees-test true h = h refl
  agrees-test false h = refl

  agrees-untest : (b : Bool) → (b ≡ false → Agrees k n short whole) → Agrees k n (cond b (refused r) short) (cond b (refused r) whole)
  agrees-untest true h = refl
  agrees-untest false h = h refl

-- nothing is taken
done-within : {A : Type 0} (a : A) → Within 0 (done a)
done-within a n b h = (n, omega arith, refl)

-- An item, and what is tested of it.
times-within : (i : Item) (t k m : ℕ) (rest : List ℕ) → k ≤ 4 + m → Agrees 4 k (check_times i t (take m rest)) (check_times i t rest)
times-within i t k m rest h = agrees-untest 4 k (got (repeated i t) (take m rest)) (got (repeated i t) rest) ZeroRepeatCount (eqb t 0) (λ e. (m, h, refl))

checked-within : (n : ℕ) (i : Item) (t k m : ℕ) (rest : List ℕ) → k ≤ 4 + m → Agrees 4 k (check_item n i t (take m rest)) (check_item n i t rest)
checked-within n (Key c) t k m rest h = agrees-untest 4 k (check_times (Key c) t (take m rest)) (check_times (Key c) t rest) InvalidKey (eqb c 0) (λ e. times-within (Key c) t k m rest h)
checked-within n (Call j) t k m rest h = agrees-test 4 k (check_times (Call j) t (take m rest)) (check_times (Call j) t rest) ForwardReference (ltb j n) (λ e. times-within (Call j) t k m rest h)

times-take : (version n : ℕ) (b : List ℕ) → 4 ≤ n → times_in version (take n b) ≡ times_in version b
unfolding times_in
times-take version n b h = rw (le16-take 2 n b (omega arith)) refl

item-within : (v n : ℕ) → Within 4 (read_item v n)
unfolding read_item
item-within v n k b h =
    let wide = width-most v in
    let least = width-least v in
    rw (few-take (width v) k b (omega arith), le16-take 0 k b (omega arith), times-take v k b h, drop-take (width v) k b)
    (agrees-untest 4 k (check_item n (item_of (le16 b)) (times_in v b) (take (k - width v) (drop (width v) b))) (check_item n (item_of (le16 b)) (times_in v b) (drop (width v) b)) MalformedBody (ltb (length b) (width v))
    (λ e. checked-within n (item_of (le16 b)) (times_in v b) k (k - width v) (drop (width v) b) (omega arith)))

-- Elements, each by a reader that takes at most k bytes.
module _ {A : Type 0} (j k n : ℕ) (rest : Reader (List A)) (others : Within k rest) (room : j + k ≤ n) where
  agrees-cons : (short whole : Reading A) → Agrees j n short whole → Agrees (j + k) n (next short (λ a b. next (rest b) (λ xs. done (a ∷ xs)))) (next whole (λ a b. next (rest b) (λ xs. done (a ∷ xs))))
  agrees-cons short whole h = agrees-next j k n (λ a b. next (rest b) (λ xs. done (a ∷ xs))) inside room short whole h
    where
      inside : (a : A) → Within k (λ b. next (rest b) (λ xs. done (a ∷ xs)))
      inside a m b l =
          agrees-more (k + 0) k m m (omega arith) (next (rest (take m b)) (λ xs. done (a ∷ xs))) (next (rest b) (λ xs. done (a ∷ xs)))
          (agrees-next k 0 m (λ xs. done (a ∷ xs)) (λ xs. done-within (a ∷ xs)) (omega arith) (rest (take m b)) (rest b) (others m b l))

items-within : (v n k : ℕ) → Within (4 * k) (read_items v n k)
unfolding read_items
items-within v n zero m b h = (m, omega arith, refl)
items-within v n (suc k) m b h =
    agrees-more (4 + 4 * k) (4 * suc k) m m (omega arith) (read_items v n (suc k) (take m b)) (read_items v n (suc k) b)
    (agrees-cons 4 (4 * k) m (read_items v n k) (items-within v n k) (omega arith) (read_item v n (take m b)) (read_item v n b) (item-within v n m b (omega arith)))

-- A macro has its count, and 64 items at the most.
macro-within : (v n : ℕ) → Within 258 (read_macro v n)
unfolding read_macro
macro-within v n m b h =
    rw (few-take 2 m b (omega arith), le16-take 0 m b (omega arith), drop-take 2 m b)
    (agrees-untest 258 m (cond (counted (le16 b)) (read_items v n (le16 b) (take (m - 2) (drop 2 b))) (refused MalformedBody)) (cond (counted (le16 b)) (read_items v n (le16 b) (drop 2 b)) (refused MalformedBody)) MalformedBody (ltb (length b) 2)
    (λ e. agrees-test 258 m (read_items v n (le16 b) (take (m - 2) (drop 2 b))) (read_items v n (le16 b) (drop 2 b)) MalformedBody (counted (le16 b))
    (λ f.
    let few : le16 b ≤ 64 = leb-true (le16 b) 64 (and_parts (leb 1 (le16 b)) (leb (le16 b) 64) f).1 in
    agrees-more (4 * le16 b) 258 (m - 2) m (omega arith) (read_items v n (le16 b) (take (m - 2) (drop 2 b))) (read_items v n (le16 b) (drop 2 b))
    (items-within v n (le16 b) (m - 2) (drop 2 b) (omega arith)))))
  where
    counted : ℕ → Bool
    counted c = leb 1 c && leb c 64

macros-within : (v n k : ℕ) → Within (258 * k) (read_macros v n k)
unfolding read_macros
macros-within v n zero m b h = (m, omega arith, refl)
macros-within v n (suc k) m b h =
    agrees-more (258 + 258 * k) (258 * suc k) m m (omega arith) (read_macros v n (suc k) (take m b)) (read_macros v n (suc k) b)
    (agrees-cons 258 (258 * k) m (read_macros v (suc n) k) (macros-within v (suc n) k) (omega arith) (read_macro v n (take m b)) (read_macro v n b) (macro-within v n m b (omega arith)))

-- The header.
magic-take : (n : ℕ) (b : List ℕ) → 3 ≤ n → has_magic (take n b) ≡ has_magic b
magic-take n b h = rw (get_or-take n b 0 0 (omega arith), get_or-take n b 1 0 (omega arith), get_or-take n b 2 0 (omega arith)) refl

header-within : (taken : List ℕ) → Within 7 (read_header taken)
unfolding read_header
header-within taken n b h =
    rw (many-take 7 n b h, magic-take n b (omega arith), le16-take 3 n b (omega arith), le16-take 5 n b (omega arith), drop-take 7 n b)
    (agrees-test 7 n (version short) (version whole) BadMagic (leb 7 (length b) && has_magic b)
    (λ e. agrees-test 7 n (count short) (count whole) UnsupportedVersion (member (le16 (drop 3 b)) taken)
    (λ f. agrees-test 7 n short whole BadMacroCount (leb 1 (le16 (drop 5 b)) && leb (le16 (drop 5 b)) 1024) (λ g. (n - 7, omega arith, refl)))))
  where
    short : Reading ℕ
    short = got (le16 (drop 5 b)) (take (n - 7) (drop 7 b))

    whole : Reading ℕ
    whole = got (le16 (drop 5 b)) (drop 7 b)

    count : Reading ℕ → Reading ℕ
    count g = cond (leb 1 (le16 (drop 5 b)) && leb (le16 (drop 5 b)) 1024) g (refused BadMacroCount)

    version : Reading ℕ → Reading ℕ
    version g = cond (member (le16 (drop 3 b)) taken) (count g) (refused UnsupportedVersion)

-- Nothing follows: one byte behind the macros is enough to see that something does.
end-alike : {A : Type 0} (k n : ℕ) → k < n → (short whole : Reading A) → Agrees k n short whole → next short at_end ≡ next whole at_end
end-alike k n h short (refused r) e = rw e refl
end-alike k n h short (got a rest) (m, l, e) = rw e (go m rest (omega arith))
  where
    go : (j : ℕ) (w : List ℕ) → 1 ≤ j → at_end a (take j w) ≡ at_end a w
    go zero w i = absurd (omega arith)
    go (suc j) [] i = refl
    go (suc j) (x ∷ w) i =
        let some : suc (length (take j w)) ≡ 0 → ⊥ = omega arith in
        let more : suc (length w) ≡ 0 → ⊥ = omega arith in
        rw (ne_eqb _ _ some, ne_eqb _ _ more) refl

-- the version stands in the first five bytes
pub version-prefix : (n : ℕ) (b : List ℕ) → 5 ≤ n → version_in (take n b) ≡ version_in b
unfolding version_in
version-prefix n b h = rw (few-take 5 n b h, le16-take 3 n b h) refl

-- a book of any length is read as its first 264,200 bytes: the header's 7, 1,024 macros of at most 258, and one
pub book-prefix : (n : ℕ) (b : List ℕ) → 264200 ≤ n → read_book (take n b) ≡ read_book b
unfolding read_book read_in read_all
book-prefix n b h = rw (version-prefix n b (omega arith)) (go (read_header versions (take n b)) (read_header versions b) refl (header-within versions n b (omega arith)))
  where
    go : (short whole : Reading ℕ) → read_header versions b ≡ whole → Agrees 7 n short whole → next short (λ k. read_all (version_in b) k) ≡ next whole (λ k. read_all (version_in b) k)
    go short (refused r) d e = rw e refl
    go short (got k rest) d (m, l, e) =
        let few : k ≤ 1024 = (header-got versions b k rest d).few in
        rw e (end-alike (258 * k) m (omega arith) (read_macros (version_in b) 0 k (take m rest)) (read_macros (version_in b) 0 k rest) (macros-within (version_in b) 0 k m rest (omega arith)))
