-- Laws of texts in a buffer.
use Prim.Native.Nat.{ℕ, ◌+◌, ◌-◌, ◌<◌, ◌≤◌}
use native.Mathlib.Nat.{add_assoc}
use native.Mathlib.Omega.{arith}
use mathlib.Core.Path.{◌≡◌, refl, sym, ap, ◌∙◌}
use mathlib.Core.Bool.{Bool, true, false, cond}
use mathlib.Core.List.{List, ◌++◌, append_assoc}
use lib.Dec.{leb}
use lib.ListN.{length, take, drop, length-append}
use lib.Seq.{paste, drop-drop, take-length, length-paste, take-paste, drop-paste}
use borrow.Author.Tests.{le-leb, lt-leb, leb-true}
use Rattle.decimals.specs.Texts.{put_at, place_after}

-- A text, by the room there is for it.
module _ (out : List ℕ) (at : ℕ) (w : List ℕ) where
  module _ (short : length out < at + length w) where
    put-short : out ≡ put_at out at w
    unfolding put_at
    put-short = rw (lt-leb (at + length w) (length out) short) refl

    place_short : at ≡ place_after out at w
    unfolding place_after
    place_short = rw (lt-leb (at + length w) (length out) short) refl

  -- the place is behind the buffer
  module _ (far : length out < at) where
    pub put-beyond : out ≡ put_at out at w
    put-beyond = put-short (omega arith)

    pub place-beyond : at ≡ place_after out at w
    place-beyond = place_short (omega arith)

  -- the place is inside, and the text has no room
  module _ (near : at ≤ length out) (few : length out - at < length w) where
    pub put-none : out ≡ put_at out at w
    put-none = put-short (omega arith)

    pub place_none : at ≡ place_after out at w
    place_none = place_short (omega arith)

  module _ (room : at + length w ≤ length out) where
    pub put_all : paste out at w (length w) ≡ put_at out at w
    unfolding put_at
    put_all = rw (le-leb (at + length w) (length out) room) refl

    pub place-all : at + length w ≡ place_after out at w
    unfolding place_after
    place-all = rw (le-leb (at + length w) (length out) room) refl

  module _ (near : at ≤ length out) (enough : length w ≤ length out - at) where
    pub put-copied : {new : List ℕ} → new ≡ paste out at w (length w) → new ≡ put_at out at w
    put-copied e = e ∙ put_all (omega arith)

    pub place-copied : at + length w ≡ place_after out at w
    place-copied = place-all (omega arith)

-- a buffer stays as long as it was
pub put-length : (out : List ℕ) (at : ℕ) (w : List ℕ) → length (put_at out at w) ≡ length out
unfolding put_at
put-length out at w = go (leb (at + length w) (length out)) refl
  where
    go : (b : Bool) → leb (at + length w) (length out) ≡ b → length (cond b (paste out at w (length w)) out) ≡ length out
    go true e = length-paste out at w (length w) (leb-true (at + length w) (length out) e) (omega arith)
    go false e = refl

-- a text's end is no further than its length behind its start
pub place-near : (out : List ℕ) (at : ℕ) (w : List ℕ) → place_after out at w ≤ at + length w
unfolding place_after
place-near out at w = grind arith

-- two texts put one behind the other are one text
module _ (out : List ℕ) (at : ℕ) (u v : List ℕ) (room : at + (length u + length v) ≤ length out) where
  module _ {mid : List ℕ} {place : ℕ} (e : mid ≡ put_at out at u) (f : place ≡ place_after out at u) where
    first : mid ≡ paste out at u (length u)
    first = e ∙ sym (put_all out at u (omega arith))

    behind : place ≡ at + length u
    behind = f ∙ sym (place-all out at u (omega arith))

    long : length mid ≡ length out
    long = ap length first ∙ length-paste out at u (length u) (omega arith) (omega arith)

    front : take place mid ≡ take at out ++ u
    front = rw (behind, first) (take-paste out at u (length u) (omega arith) (omega arith) ∙ ap (λ (l : List ℕ). take at out ++ l) (take-length u))

    rest : drop (place + length v) mid ≡ drop (at + length (u ++ v)) out
    rest =
        let ends : at + length u + length v ≡ at + length (u ++ v) = omega (arith, length-append u v) in
        sym (drop-drop (length v) place mid)
        ∙ ap (λ (l : List ℕ). drop (length v) l) (rw (behind, first) (drop-paste out at u (length u) (omega arith) (omega arith)))
        ∙ drop-drop (length v) (at + length u) out
        ∙ ap (λ (n : ℕ). drop n out) ends

    pub put_both : {new : List ℕ} → new ≡ put_at mid place v → new ≡ put_at out at (u ++ v)
    put_both g =
        let whole : at + length (u ++ v) ≤ length out = rw (length-append u v) room in
        g ∙ sym (put_all mid place v (omega (arith, behind, long)))
        ∙ rw (front, rest, take-length v, take-length (u ++ v)) (ap (λ (l : List ℕ). l ++ drop (at + length (u ++ v)) out) (append_assoc (take at out) u v))
        ∙ put_all out at (u ++ v) whole

    pub place-both : {new : ℕ} → new ≡ place_after mid place v → new ≡ place_after out at (u ++ v)
    place-both g =
        let whole : at + length (u ++ v) ≤ length out = rw (length-append u v) room in
        g ∙ sym (place-all mid place v (omega (arith, behind, long))) ∙ rw (behind, length-append u v) (add_assoc at (length u) (length v)) ∙ place-all out at (u ++ v) whole
