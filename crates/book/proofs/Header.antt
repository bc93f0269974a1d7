-- The header of a book: one law for each way out of the code that reads it.
use Prim.Native.Nat.{ℕ, ◌≤◌}
use mathlib.Core.Path.{◌≡◌, sym, ap, ◌∙◌}
use mathlib.Core.Bool.{Bool, true, false, not, ◌&&◌}
use mathlib.Core.List.{List}
use lib.Dec.{leb}
use lib.ListN.{length, drop}
use borrow.Author.Tests.{not-true, not-false, leb-true}
use Rattle.refusal.specs.declared.Refusal.{Refusal}
use Rattle.refusal.specs.declared.Refusal.TheVariants.{BadMagic, UnsupportedVersion, BadMacroCount}
use Rattle.std.specs.Prelude.{Ok, Err}
use Rattle.runs.specs.Keys.{member}
use Rattle.book.specs.Format.{versions}
use Rattle.book.specs.Reading.{Reading, got, refused, has_magic, le16, read_header}
use Rattle.book.specs.Promises.{header_of}
use Rattle.book.proofs.Readings.{test-got, same-got}
use Rattle.runs.proofs.Tests.{clash, and-fst, and_parts}

module _ (s : List ℕ) where
  module _ (m : Bool) (e : m ≡ leb 7 (length s) && has_magic s) where
    pub header-magic : not m ≡ true → Err BadMagic ≡ header_of (read_header versions s)
    unfolding read_header
    header-magic f = rw (sym e ∙ not-true m f)

    module _ (f : not m ≡ false) where
      pub header-long : 7 ≤ length s
      header-long = leb-true 7 (length s) (and-fst (leb 7 (length s)) (has_magic s) (sym e ∙ not-false m f))

      module _ (v : ℕ) (ev : v ≡ le16 (drop 3 s)) (t : Bool) (et : t ≡ member v versions) where
        pub header-version : not t ≡ true → Err UnsupportedVersion ≡ header_of (read_header versions s)
        unfolding read_header
        header-version n = rw (sym e ∙ not-false m f, ← ev, sym et ∙ not-true t n)

        module _ (known : not t ≡ false) (k : ℕ) (ek : k ≡ le16 (drop 5 s)) where
          pub header-count : not (leb 1 k && leb k 1024) ≡ true → Err BadMacroCount ≡ header_of (read_header versions s)
          unfolding read_header
          header-count l = rw (sym e ∙ not-false m f, ← ev, sym et ∙ not-false t known, ← ek, not-true (leb 1 k && leb k 1024) l)

          pub header-good : not (leb 1 k && leb k 1024) ≡ false → Ok k ≡ header_of (read_header versions s)
          unfolding read_header
          header-good l = rw (sym e ∙ not-false m f, ← ev, sym et ∙ not-false t known, ← ek, not-false (leb 1 k && leb k 1024) l)

-- what some bytes have whose header was read: it took seven of them
pub record Headed (taken b : List ℕ) (k : ℕ) (rest : List ℕ) : Type 0 where
  pub long : 7 ≤ length b
  pub magic : has_magic b ≡ true
  pub version : member (le16 (drop 3 b)) taken ≡ true
  pub count : le16 (drop 5 b) ≡ k
  pub some : 1 ≤ k
  pub few : k ≤ 1024
  pub behind : rest ≡ drop 7 b

pub header-got : (taken b : List ℕ) (k : ℕ) (rest : List ℕ) → read_header taken b ≡ got k rest → Headed taken b k rest
unfolding read_header
header-got taken b k rest e =
    let (first, e1) = test-got _ _ BadMagic k rest e in
    let (one, e2) = test-got _ _ UnsupportedVersion k rest e1 in
    let (counted, e3) = test-got _ _ BadMacroCount k rest e2 in
    let (long, magic) = and_parts (leb 7 (length b)) (has_magic b) first in
    let (low, high) = and_parts (leb 1 (le16 (drop 5 b))) (leb (le16 (drop 5 b)) 1024) counted in
    let (count, there) = same-got e3 in
    record {
      long = leb-true _ _ long;
      magic = magic;
      version = one;
      count = count;
      some = rw count at (leb-true 1 (le16 (drop 5 b)) low);
      few = rw count at (leb-true (le16 (drop 5 b)) 1024 high);
      behind = sym there;
    }

-- what the answer of the header's reader says of its reading
pub headed-macros : (g : Reading ℕ) (k : ℕ) → header_of g ≡ Ok k → (rest : List ℕ) × (g ≡ got k rest)
headed-macros (got j rest) k e = let same : j ≡ k = cc in (rest, ap (λ (x : ℕ). got x rest) same)
headed-macros (refused r) k e = clash (cc)

pub headed-refused : (g : Reading ℕ) (r : Refusal) → header_of g ≡ Err r → g ≡ refused r
headed-refused (got j rest) r e = cc
headed-refused (refused q) r e = let same : q ≡ r = cc in ap refused same
