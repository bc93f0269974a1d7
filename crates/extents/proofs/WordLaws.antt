-- Laws of the four words of an extent, stored and read back.
use Prim.Native.Nat.{ℕ, ◌+◌, ◌≤◌}
use native.Mathlib.Omega.{arith}
use mathlib.Core.Path.{◌≡◌, refl, sym, ap, ◌∙◌}
use mathlib.Core.List.{List, ◌++◌}
use lib.ListN.{length, get_or, take, drop, length-append, length-take, length-drop}
use lib.Seq.{get_or-drop}
use borrow.Author.Tests.{le-leb}
use Rattle.extents.specs.declared.extent.Extent.{Extent}
use Rattle.extents.specs.Words.{width, extent_words, loaded_from, loaded_at, stored_at}

-- Where there is room: what is stored, and what is read back from where it stands.
pub stored-at : (work : List ℕ) (at : ℕ) (e : Extent) → at + width ≤ length work → stored_at work at e ≡ take at work ++ (extent_words e ++ drop (at + width) work)
unfolding stored_at
stored-at work at e h = rw (le-leb (at + width) (length work) h) refl

pub stored-long : (work : List ℕ) (at : ℕ) (e : Extent) → at + width ≤ length work → length (stored_at work at e) ≡ length work
stored-long work at e h =
    ap length (stored-at work at e h)
    ∙ rw (length-append (take at work) (extent_words e ++ drop (at + width) work), length-take at work, length-drop (at + width) work) (omega arith)

pub loaded-from : (work : List ℕ) (at : ℕ) (e : Extent) (behind : List ℕ) → drop at work ≡ extent_words e ++ behind → at + width ≤ length work → loaded_at work at ≡ e
unfolding loaded_at
loaded-from work at e behind d h = rw (le-leb (at + width) (length work) h) (same (let none : at + 0 ≡ at = omega arith in rw none at (entry 0)) (entry 1) (entry 2) (entry 3))
  where
    entry : (k : ℕ) → get_or work (at + k) 0 ≡ get_or (extent_words e ++ behind) k 0
    entry k = sym (get_or-drop at work k 0) ∙ ap (λ (l : List ℕ). get_or l k 0) d

    same : get_or work at 0 ≡ e.ends → get_or work (at + 1) 0 ≡ e.first → get_or work (at + 2) 0 ≡ e.last → get_or work (at + 3) 0 ≡ e.keys → loaded_from work at ≡ e
    same a b c d = rw (a, b, c, d) refl
