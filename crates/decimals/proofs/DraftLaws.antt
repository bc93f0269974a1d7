-- Laws of drafts.
use Prim.Native.Nat.{ℕ, ◌+◌, ◌≤◌}
use native.Mathlib.Omega.{arith}
use mathlib.Core.Path.{◌≡◌, refl, sym, ap, subst, ◌∙◌}
use mathlib.Core.List.{List, [], ◌++◌}
use lib.ListN.{length, take, drop, length-append}
use lib.Seq.{paste, paste-zero, take-append_seam, drop-append-add, drop-drop, take-length}
use Rattle.io.specs.Digits.{IsDigitCount}
use Rattle.io.specs.Digits as io
use Rattle.runs.specs.Kept.{over}
use Rattle.runs.proofs.KeptLaws.{over-length}
use Rattle.decimals.specs.declared.text.Draft.{Draft}
use Rattle.decimals.specs.Decimals.{numeral}
use Rattle.decimals.specs.Drafts.{Puts}
use Rattle.decimals.proofs.NumeralLaws.{decimal-digits}
use Rattle.decimals.proofs.TextLaws.{put_all, place-all, put-copied, place-copied, put_both, place-both, put-length, place-near}

-- the same text, written otherwise
pub puts-as : {v w : List ℕ} {a b : Draft} → v ≡ w → Puts v a b → Puts w a b
puts-as {v} {w} {a} {b} e p = subst (λ (u : List ℕ). Puts u a b) e p

-- the digits that `io::decimal` puts into an array, taken from its front
pub puts-digits : {a b : Draft} (digits : List ℕ) (n k : ℕ) → IsDigitCount 10 1 n k → take k digits ≡ io.last_digits 10 k n → Puts (take k digits) a b → Puts (numeral n) a b
puts-digits digits n k few e = puts-as (e ∙ decimal-digits n k few)

-- no text
pub puts-none : (a : Draft) → a.length ≤ length a.bytes.now → Puts [] a a
puts-none a h =
    record {
      same = refl;
      buffer = put-copied a.bytes.now a.length [] h (omega arith) (paste-zero a.bytes.now a.length []);
      place = (let none : a.length ≡ a.length + 0 = omega arith in none) ∙ place-copied a.bytes.now a.length [] h (omega arith);
    }

-- two texts put one behind the other are one text
pub puts-both : (u v : List ℕ) {a b c : Draft} → a.length + (length u + length v) ≤ length a.bytes.now → Puts u a b → Puts v b c → Puts (u ++ v) a c
puts-both u v {a} room p q =
    record {
      same = q.same ∙ p.same;
      buffer = put_both a.bytes.now a.length u v room p.buffer p.place q.buffer;
      place = place-both a.bytes.now a.length u v room p.buffer p.place q.place;
    }

module _ {w : List ℕ} {a b : Draft} (p : Puts w a b) where
  -- a text's end is no further than its length behind its start
  pub puts-near : b.length ≤ a.length + length w
  puts-near = omega (arith, p.place, place-near a.bytes.now a.length w)

  -- a buffer stays as long as it was
  pub puts-wide : length b.bytes.now ≡ length a.bytes.now
  puts-wide = ap length p.buffer ∙ put-length a.bytes.now a.length w

-- A draft in a buffer that held `old`, and its text.
pub record Holds (old w : List ℕ) (a : Draft) : Type 0 where
  pub front : a.bytes.now ≡ over w old
  pub place : a.length ≡ length w
  pub room : length w ≤ length old

pub holds-none : (a : Draft) {old : List ℕ} → a.bytes.now ≡ old → a.length ≡ 0 → Holds old [] a
holds-none a e f = record { front = e; place = f; room = omega arith }

-- one text more
pub holds-more : {old w : List ℕ} {a b : Draft} → Holds old w a → (v : List ℕ) → length w + length v ≤ length old → Puts v a b → Holds old (w ++ v) b
holds-more {old} {w} {a} {b} h v fits p =
    let long : length a.bytes.now ≡ length old = ap length h.front ∙ over-length w old h.room in
    let behind : a.length + length v ≤ length a.bytes.now = omega (arith, h.place) in
    record {
      front = p.buffer ∙ sym (put_all a.bytes.now a.length v behind) ∙ pasted;
      place = p.place ∙ sym (place-all a.bytes.now a.length v behind) ∙ ap (λ (n : ℕ). n + length v) h.place ∙ sym (length-append w v);
      room = rw (length-append w v) fits;
    }
  where
    pasted : paste a.bytes.now a.length v (length v) ≡ over (w ++ v) old
    pasted =
        rw (h.place, h.front, take-append_seam w (drop (length w) old), take-length v, drop-append-add w (drop (length w) old) (length v), drop-drop (length v) (length w) old, length-append w v)
        refl
