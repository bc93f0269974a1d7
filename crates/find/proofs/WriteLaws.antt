-- Laws of what a pen writes: of runs one behind the other, of passes that are skipped, of an item's passes and of a macro's items.
use Prim.Native.Nat.{ℕ, zero, suc, ◌+◌, ◌-◌, ◌*◌, ◌/◌, ◌<◌, ◌≤◌}
use native.Mathlib.Nat.{div-mul-le_self, mul-le-mul_right}
use native.Mathlib.Omega.{arith}
use mir.Val.{Fits}
use mir.Syntax.{w64}
use mathlib.Core.Path.{◌≡◌, refl, sym, ap, subst, ◌∙◌}
use mathlib.Core.Logic.{◌⊎◌, inl, inr, ⊎_elim}
use mathlib.Core.Bool.{true, false, cond}
use mathlib.Core.List.{List, [], ◌∷◌, ◌++◌, append_assoc, Memᴰ}
use lib.Dec.{eqb}
use lib.ListN.{length, get_or, set, take, drop, length-append, length-take, length-drop, take-append-drop}
use lib.Seq.{take-nil, take_at, drop-append-add, drop-drop, set_split}
use borrow.Author.Tests.{eqb-true, eqb-false, eq-eqb, ne_eqb, lt-ltb, le-ltb}
use Rattle.std.specs.Prelude.{Some, slice_get}
use Rattle.runs.specs.Keys.{line_end}
use Rattle.runs.specs.Kept.{first_words, times}
use Rattle.runs.proofs.Tests.{by-test, either}
use Rattle.runs.proofs.KeptLaws.{words-suc, times-add, times_none, times-one}
use Rattle.book.specs.declared.item.Item.{Item}
use Rattle.book.specs.declared.item.Item.TheVariants.{Key, Call}
use Rattle.book.specs.declared.item.Repeated.{Repeated}
use Rattle.book.specs.Format.{Macro, repeated, well_formed}
use Rattle.book.specs.Expansion.{keys_of, expand, unrolled, expansion}
use Rattle.book.specs.Reading.{macros_in}
use Rattle.book.specs.MacroItems.{items_from, decoded}
use Rattle.book.proofs.MacroItems.{item-in, items-are}
use Rattle.book.proofs.LayoutLaws.{well-in}
use Rattle.book.proofs.Expansion.{well-key, well-call, expansion-law}
use Rattle.extents.specs.Capped.{most, capped}
use Rattle.extents.specs.declared.extent.Extent.{Extent}
use Rattle.extents.specs.Extents.{end_count, extent_of}
use Rattle.extents.proofs.CappedLaws.{capped-below}
use Rattle.extents.proofs.ExtentLaws.{ends-none, ends-cons, ends-append, ends-times, extent-fields, key-extent}
use Rattle.find.specs.declared.writing.Pen.{Pen}
use Rattle.find.specs.Answer.{extent_words_of}
use Rattle.find.specs.Promises.{Extended, MacroAt, item_extent, behind_ends, writes, pen_after, buffer_after, passes_before, Served, ItemFits, WriteFits}
use Rattle.find.proofs.FillLaws.{keys-none, keys-more, extent-at}

-- The keys behind some line ends.

behind-nil : (n : ℕ) → behind_ends n [] ≡ []
unfolding behind_ends
behind-nil n = refl

pub behind-zero : (w : List ℕ) → behind_ends 0 w ≡ w
unfolding behind_ends
behind-zero [] = refl
behind-zero (c ∷ w) = refl

-- the line ends that one key is
abbrev ends_of : ℕ → ℕ
ends_of c = cond (eqb line_end c) 1 0

-- of runs one behind the other
pub behind-both : (n : ℕ) (u v : List ℕ) → behind_ends n (u ++ v) ≡ behind_ends n u ++ behind_ends (n - end_count u) v
unfolding behind_ends
behind-both n [] v = rw ends-none (let e : n - 0 ≡ n = omega arith in rw e refl)
behind-both n (c ∷ u) v =
    by-test (eqb n 0)
    (λ e. let none : n - end_count (c ∷ u) ≡ 0 = omega (arith, eqb-true n 0 e) in rw (e, none, behind-zero v) refl)
    (λ e.
    let rest : n - end_count (c ∷ u) ≡ (n - ends_of c) - end_count u = rw (ends-cons c u) (omega arith) in
    rw (e, rest) (behind-both (n - ends_of c) u v))

-- none where there are fewer
pub behind-few : (n : ℕ) (w : List ℕ) → end_count w < n → behind_ends n w ≡ []
unfolding behind_ends
behind-few n [] h = refl
behind-few n (c ∷ w) h =
    let some : eqb n 0 ≡ false = ne_eqb n 0 (λ e. go (rw e at h)) in
    rw some (behind-few (n - ends_of c) w (omega (arith, h, ends-cons c w)))
  where
    go : end_count (c ∷ w) < 0 → ⊥
    go l = omega arith

-- What a pen writes.

-- a first part of two lists is one of the first, and then one of the second
take-both : {A : Type 0} (n : ℕ) (x y : List A) → take n (x ++ y) ≡ take n x ++ take (n - length (take n x)) y
take-both zero x y = refl
take-both (suc n) [] y = let e : suc n - 0 ≡ suc n = omega arith in rw e refl
take-both (suc n) (a ∷ x) y =
    let e : suc n - suc (length (take n x)) ≡ n - length (take n x) = omega arith in
    rw e (ap (λ (l : List _). a ∷ l) (take-both n x y))

pen-same : {p q : Pen} → p.ends ≡ q.ends → p.left ≡ q.left → p.at ≡ q.at → p ≡ q
pen-same {p} {q} e l a = go p.ends q.ends p.left q.left p.at q.at e l a
  where
    go : (a b c d e f : ℕ) → a ≡ b → c ≡ d → e ≡ f → ◌≡◌ {A = Pen} (record { ends = a; left = c; at = e }) (record { ends = b; left = d; at = f })
    go a b c d e f g h i = rw (g, h, i) refl

module _ (pen : Pen) where
  -- a pen that has nothing left to write is done
  pen-done : pen.left ≡ 0 → (w : List ℕ) → pen_after pen w ≡ pen
  unfolding pen_after
  pen-done h w = rw (eq-eqb pen.left 0 h) refl

  writes-done : pen.left ≡ 0 → (w : List ℕ) → writes pen w ≡ []
  writes-done h w = rw h refl

  writes-none : writes pen [] ≡ []
  writes-none = rw (behind-nil pen.ends) (take-nil pen.left)

  module _ (w : List ℕ) where
    writes-fit : length (writes pen w) ≤ pen.left
    writes-fit = rw (length-take pen.left (behind_ends pen.ends w)) (omega arith)

    -- else it has moved on
    pen-moves : (pen.left ≡ 0 → ⊥) → pen_after pen w ≡ record { ends = pen.ends - end_count w; left = pen.left - length (writes pen w); at = pen.at + length (writes pen w) }
    unfolding pen_after
    pen-moves h = rw (ne_eqb pen.left 0 h) refl

    left_after : (pen_after pen w).left ≡ pen.left - length (writes pen w)
    left_after =
        by-test (eqb pen.left 0)
        (λ e. let z = eqb-true pen.left 0 e in rw (pen-done z w, z) (omega arith))
        (λ e. rw (pen-moves (eqb-false pen.left 0 e)) refl)

    at_after : (pen_after pen w).at ≡ pen.at + length (writes pen w)
    at_after =
        by-test (eqb pen.left 0)
        (λ e. let z = eqb-true pen.left 0 e in rw (pen-done z w, z) (omega arith))
        (λ e. rw (pen-moves (eqb-false pen.left 0 e)) refl)

    ends-after : (pen.left ≡ 0 → ⊥) → (pen_after pen w).ends ≡ pen.ends - end_count w
    ends-after h = rw (pen-moves h) refl

-- no run moves no pen
pen-none : (pen : Pen) → pen_after pen [] ≡ pen
pen-none pen =
    by-test (eqb pen.left 0)
    (λ e. pen-done pen (eqb-true pen.left 0 e) [])
    (λ e.
    let none : length (writes pen []) ≡ 0 = ap length (writes-none pen) in
    let some = eqb-false pen.left 0 e in
    pen-same (omega (arith, ends-after pen [] some, ends-none)) (omega (arith, left_after pen [], none)) (omega (arith, at_after pen [], none)))

-- Runs one behind the other.
module _ (pen : Pen) (u v : List ℕ) where
  writes-both : writes pen (u ++ v) ≡ writes pen u ++ writes (pen_after pen u) v
  writes-both =
      by-test (eqb pen.left 0)
      (λ e. let z = eqb-true pen.left 0 e in rw (writes-done pen z u, pen-done pen z u, writes-done pen z v, writes-done pen z (u ++ v)) refl)
      (λ e.
      ap (take pen.left) (behind-both pen.ends u v)
      ∙ take-both pen.left (behind_ends pen.ends u) (behind_ends (pen.ends - end_count u) v)
      ∙ rw (pen-moves pen u (eqb-false pen.left 0 e)) refl)

  both_long : length (writes pen (u ++ v)) ≡ length (writes pen u) + length (writes (pen_after pen u) v)
  both_long = ap length writes-both ∙ length-append (writes pen u) (writes (pen_after pen u) v)

  -- a pen that came to its end behind u had no line end left to skip
  ended : (pen.left ≡ 0 → ⊥) → (pen_after pen u).left ≡ 0 → pen.ends ≤ end_count u
  ended some h = either (end_count u) pen.ends (λ l. absurd (go (behind-few pen.ends u l))) (λ l. l)
    where
      go : behind_ends pen.ends u ≡ [] → ⊥
      go e =
          let none : length (writes pen u) ≡ 0 = rw (e, take-nil pen.left) refl in
          some (omega (arith, none, h, left_after pen u))

  pen-both : pen_after (pen_after pen u) v ≡ pen_after pen (u ++ v)
  pen-both =
      by-test (eqb pen.left 0)
      (λ e. let z = eqb-true pen.left 0 e in rw (pen-done pen z u, pen-done pen z v, pen-done pen z (u ++ v)) refl)
      (λ e.
      let some = eqb-false pen.left 0 e in
      pen-same
      (ends some)
      (omega (arith, left_after (pen_after pen u) v, left_after pen u, left_after pen (u ++ v), both_long))
      (omega (arith, at_after (pen_after pen u) v, at_after pen u, at_after pen (u ++ v), both_long)))
    where
      ends : (pen.left ≡ 0 → ⊥) → (pen_after (pen_after pen u) v).ends ≡ (pen_after pen (u ++ v)).ends
      ends some =
          by-test (eqb (pen_after pen u).left 0)
          (λ e.
          let z = eqb-true (pen_after pen u).left 0 e in
          ap (λ (p : Pen). p.ends) (pen-done (pen_after pen u) z v) ∙ let same : (pen_after pen u).ends ≡ (pen_after pen (u ++ v)).ends = omega (arith, ended some z, ends-after pen u some, ends-after pen (u ++ v) some, ends-append u v) in same)
          (λ e. omega (arith, ends-after pen u some, ends-after (pen_after pen u) v (eqb-false (pen_after pen u).left 0 e), ends-after pen (u ++ v) some, ends-append u v))

-- The buffer.

drop_past : (p q : List ℕ) (n k : ℕ) → length p ≡ n → drop (n + k) (p ++ q) ≡ drop k q
drop_past p q n k e = rw (← e) (drop-append-add p q k)

-- x stored at a place of b, and y behind it
stored-both : (at : ℕ) (x y b : List ℕ) → at + length x ≤ length b
    → let c = take at b ++ (x ++ drop (at + length x) b) in take (at + length x) c ++ (y ++ drop ((at + length x) + length y) c) ≡ take at b ++ ((x ++ y) ++ drop (at + length (x ++ y)) b)
stored-both at x y b h =
    let front = take at b ++ x in
    let behind = drop (at + length x) b in
    let long : length front ≡ at + length x = rw (length-append (take at b) x, length-take at b) (omega arith) in
    let split : take at b ++ (x ++ behind) ≡ front ++ behind = sym (append_assoc (take at b) x behind) in
    let far : (at + length x) + length y ≡ at + length (x ++ y) = rw (length-append x y) (omega arith) in
    let rest : drop ((at + length x) + length y) (front ++ behind) ≡ drop (at + length (x ++ y)) b =
    drop_past front behind (at + length x) (length y) long ∙ drop-drop (length y) (at + length x) b ∙ ap (λ (n : ℕ). drop n b) far in
    rw (split, take_at front behind (at + length x) long, rest) (simp append_assoc)

-- it is as it was where nothing is written
buffer-none : (pen : Pen) (w b : List ℕ) → writes pen w ≡ [] → buffer_after pen w b ≡ b
unfolding buffer_after
buffer-none pen w b e = let same : pen.at + 0 ≡ pen.at = omega arith in rw (e, same) (take-append-drop pen.at b)

module _ (pen : Pen) (b : List ℕ) (room : pen.at + pen.left ≤ length b) where
  buffer-long : (w : List ℕ) → length (buffer_after pen w b) ≡ length b
  unfolding buffer_after
  buffer-long w =
      let x = writes pen w in
      rw (length-append (take pen.at b) (x ++ drop (pen.at + length x) b), length-append x (drop (pen.at + length x) b), length-take pen.at b, length-drop (pen.at + length x) b)
      (omega (arith, writes-fit pen w))

  -- and the pen has room for what it is still to write
  room_after : (w : List ℕ) → (pen_after pen w).at + (pen_after pen w).left ≤ length (buffer_after pen w b)
  room_after w = omega (arith, buffer-long w, at_after pen w, left_after pen w, writes-fit pen w)

  buffer-both : (u v : List ℕ) → buffer_after (pen_after pen u) v (buffer_after pen u b) ≡ buffer_after pen (u ++ v) b
  unfolding buffer_after
  buffer-both u v = rw (at_after pen u, writes-both pen u v) (stored-both pen.at (writes pen u) (writes (pen_after pen u) v) b (omega (arith, writes-fit pen u)))

-- A pen and a buffer behind w.
pub record Wrote (first : Pen) (before w : List ℕ) (now : Pen) (buffer : List ℕ) : Type 0 where
  pub behind : now ≡ pen_after first w
  pub written : buffer ≡ buffer_after first w before

module _ (pen : Pen) (b : List ℕ) where
  wrote_none : Wrote pen b [] pen b
  wrote_none = record { behind = sym (pen-none pen); written = sym (buffer-none pen [] b (writes-none pen)) }

  -- the way out of the code where a pen is done
  module _ (w : List ℕ) (h : pen.left ≡ 0) where
    pub done-behind : pen ≡ pen_after pen w
    done-behind = sym (pen-done pen h w)

    pub done-written : b ≡ buffer_after pen w b
    done-written = sym (buffer-none pen w b (writes-done pen h w))

    wrote-done : Wrote pen b w pen b
    wrote-done = record { behind = done-behind; written = done-written }

module _ {first : Pen} {before u : List ℕ} {now : Pen} {buffer : List ℕ} (room : first.at + first.left ≤ length before) (x : Wrote first before u now buffer) where
  wrote-room : now.at + now.left ≤ length buffer
  wrote-room = rw (x.behind, x.written) (room_after first before room u)

  wrote-both : {v : List ℕ} {next : Pen} {more : List ℕ} → Wrote now buffer v next more → Wrote first before (u ++ v) next more
  wrote-both {v} y =
      record {
        behind = y.behind ∙ ap (λ (p : Pen). pen_after p v) x.behind ∙ pen-both first u v;
        written = y.written ∙ ap (λ (p : Pen). buffer_after p v buffer) x.behind ∙ ap (buffer_after (pen_after first u) v) x.written ∙ buffer-both first before room u v;
      }

-- One key.
module _ (key : ℕ) (pen : Pen) (b : List ℕ) (some : pen.left ≡ 0 → ⊥) where
  -- it is written
  module _ (h : pen.ends ≡ 0) where
    written : writes pen (key ∷ []) ≡ key ∷ []
    written =
        let more : pen.left ≡ suc (pen.left - 1) = omega (arith, some) in
        rw (h, behind-zero (key ∷ []), more, take-nil (pen.left - 1)) refl

    pub key-written : record { ends = 0; left = pen.left - 1; at = pen.at + 1 } ≡ pen_after pen (key ∷ [])
    key-written = let none : 0 - end_count (key ∷ []) ≡ 0 = omega arith in rw (pen-moves pen (key ∷ []) some, written, h, none) refl

    pub key-written-buffer : pen.at + pen.left ≤ length b → set b pen.at key ≡ buffer_after pen (key ∷ []) b
    unfolding buffer_after
    key-written-buffer room = let next : pen.at + 1 ≡ suc pen.at = omega arith in rw (written, next) (set_split b pen.at key (omega (arith, some)))

  -- or skipped
  module _ (h : pen.ends ≡ 0 → ⊥) where
    unwritten : writes pen (key ∷ []) ≡ []
    unfolding behind_ends
    unwritten = rw (ne_eqb pen.ends 0 h) (take-nil pen.left)

    skipping : record { ends = pen.ends - ends_of key; left = pen.left; at = pen.at } ≡ pen_after pen (key ∷ [])
    skipping =
        let e : end_count (key ∷ []) ≡ ends_of key = ends-cons key [] ∙ rw ends-none (omega arith) in
        let f : pen.left - 0 ≡ pen.left = omega arith in
        let g : pen.at + 0 ≡ pen.at = omega arith in
        rw (pen-moves pen (key ∷ []) some, unwritten, e, f, g) refl

    pub key-end : key ≡ 10 → record { ends = pen.ends - 1; left = pen.left; at = pen.at } ≡ pen_after pen (key ∷ [])
    key-end e = rw (eq-eqb line_end key (sym e)) at skipping

    pub key-skipped : (key ≡ 10 → ⊥) → pen ≡ pen_after pen (key ∷ [])
    key-skipped e = let same : pen.ends - 0 ≡ pen.ends = omega arith in rw (ne_eqb line_end key (λ f. e (sym f)), same) at skipping

    pub key-skipped-buffer : b ≡ buffer_after pen (key ∷ []) b
    key-skipped-buffer = sym (buffer-none pen (key ∷ []) b unwritten)

-- Passes before the place that some line ends lead to.

-- They are no more than there are, and end before that place.
module _ (n each ends q : ℕ) (f : q ≡ passes_before n each ends) where
  counted : (q ≤ n) × (q * each ≤ ends - 1)
  unfolding passes_before
  counted =
      rw f
      (by-test (eqb ends 0)
      (λ e. rw e (omega arith, omega arith))
      (λ e.
      by-test (eqb each 0)
      (λ g. let z : each ≡ 0 = eqb-true each 0 g in rw (e, g, z) (omega arith, omega arith))
      (λ g.
      let whole = div-mul-le_self (ends - 1) each in
      either ((ends - 1) / each) n
      (λ l. rw (e, g, lt-ltb ((ends - 1) / each) n l) (omega arith, whole))
      (λ l. rw (e, g, le-ltb ((ends - 1) / each) n l) (omega arith, omega (arith, mul-le-mul_right each l, whole))))))

  -- none where no line end is to be skipped
  none-before : ends ≡ 0 → q ≡ 0
  unfolding passes_before
  none-before h = f ∙ rw (eq-eqb ends 0 h) refl

  pub skipped-few : q ≤ n
  skipped-few = counted.0

  pub skipped-within : q * each ≤ ends
  skipped-within = omega (arith, counted.1)

  pub skipped-fits : Fits w64 ends → Fits w64 (q * each)
  skipped-fits h = omega (arith, counted.1)

  -- none, or so few that their line ends are told in full
  skipped-told : Fits w64 ends → (e : ℕ) → each ≡ capped e → (q ≡ 0) ⊎ ((each ≡ e) × (q * e < ends))
  skipped-told h e g =
      by-test (eqb q 0)
      (λ z. inl (eqb-true q 0 z))
      (λ z.
      let some = eqb-false q 0 z in
      let one : 1 * each ≤ q * each = mul-le-mul_right each (let l : 1 ≤ q = omega (arith, some) in l) in
      let positive : ends ≡ 0 → ⊥ = λ w. some (none-before w) in
      let small : each < most = omega (arith, one, counted.1, positive) in
      let same : each ≡ e = g ∙ capped-below e (rw (← g) small) in
      inr (same, rw (← same) (omega (arith, counted.1, positive))))

-- A pen that skips passes of v.
module _ (pen : Pen) (some : pen.left ≡ 0 → ⊥) (small : Fits w64 pen.ends) (v : List ℕ) (n each q : ℕ) (f : q ≡ passes_before n each pen.ends) (g : each ≡ capped (end_count v)) where
  ends-skipped : q * each ≡ end_count (times q v)
  ends-skipped =
      rw (ends-times q v)
      (⊎_elim
      (λ z. rw z (omega arith))
      (λ (same, l). rw same (omega arith))
      (skipped-told n each pen.ends q f small (end_count v) g))

  none_written : writes pen (times q v) ≡ []
  none_written =
      ⊎_elim
      (λ z. let none : times q v ≡ [] = ap (λ (k : ℕ). times k v) z ∙ times_none v in rw (none, behind-nil pen.ends) (take-nil pen.left))
      (λ (same, l). rw (behind-few pen.ends (times q v) (rw (ends-times q v) (omega (arith, l)))) (take-nil pen.left))
      (skipped-told n each pen.ends q f small (end_count v) g)

  skipped : (b : List ℕ) → Wrote pen b (times q v) (record { ends = pen.ends - q * each; left = pen.left; at = pen.at }) b
  skipped b =
      let e : pen.left - 0 ≡ pen.left = omega arith in
      let h : pen.at + 0 ≡ pen.at = omega arith in
      record {
        behind = rw (pen-moves pen (times q v) some, none_written, ends-skipped, e, h) refl;
        written = sym (buffer-none pen (times q v) b none_written);
      }

-- An item's passes.

-- how deep an item goes: calls go to lower macros
unfoldable pub depth_of : Item → ℕ
depth_of (Key k) = 0
depth_of (Call j) = 2 * j + 2

-- an item's extent is that of its keys
served-extent : (ms : List Macro) (words : List ℕ) (item : Item) → Served ms words item → item_extent words item ≡ extent_of (keys_of (λ j. expansion ms j) item)
unfolding Served item_extent
served-extent ms words (Key k) s = key-extent k
served-extent ms words (Call j) s = extent-at ms (suc j) j (omega arith) words s.1

-- The words of the first n macros are those of the first m, and others behind them.
module _ (ms : List Macro) where
  pub extended-less : (n m : ℕ) (words : List ℕ) → m ≤ n → Extended ms n words → Extended ms m words
  unfolding Extended
  extended-less zero m words h x = let none : m ≡ 0 = omega arith in rw none x
  extended-less (suc n) m words h x =
      either m (suc n)
      (λ l. extended-less n m words (omega arith) (extent_words_of ms n ++ x.0, x.1 ∙ rw (words-suc (extent_words_of ms) n) (append_assoc (first_words (extent_words_of ms) n) (extent_words_of ms n) x.0)))
      (λ l. let all : m ≡ suc n = omega arith in rw all x)

-- a called macro and those below it have their words, so it can be written
call-inside : {b offsets words : List ℕ} {item : Item} {pen : Pen} {before : List ℕ} → ItemFits b offsets words item pen before → {j : ℕ} → item ≡ Call j → MacroAt b offsets j words
unfolding Served
call-inside {b} {offsets} {words} x {j} e = go (rw e at x.served)
  where
    go : Served (macros_in b) words (Call j) → MacroAt b offsets j words
    go (l, y) = record { table = x.table; inside = l; below = extended-less (macros_in b) (suc j) j words (omega arith) y }

module _ {b offsets words : List ℕ} {item : Item} {pen : Pen} {before : List ℕ} (x : ItemFits b offsets words item pen before) where
  abbrev keys_there : List ℕ
  keys_there = keys_of (λ j. expansion (macros_in b) j) item

  -- those that are skipped
  pub passing-first : (pen.left ≡ 0 → ⊥) → Fits w64 pen.ends → {extent : Extent} → extent ≡ item_extent words item → (n q : ℕ) → q ≡ passes_before n extent.ends pen.ends
      → Wrote pen before (times q keys_there) (record { ends = pen.ends - q * extent.ends; left = pen.left; at = pen.at }) before
  passing-first some small {extent} e n q f =
      let each : extent.ends ≡ capped (end_count keys_there) = ap (λ (r : Extent). r.ends) (e ∙ served-extent (macros_in b) words item x.served ∙ extent-fields keys_there) in
      skipped pen some small keys_there n extent.ends q f each before

  module _ (k : ℕ) {now : Pen} {buffer : List ℕ} (s : Wrote pen before (times k keys_there) now buffer) where
    pub passing-room : now.at + now.left ≤ length buffer
    passing-room = wrote-room x.room s

    -- what a call finds
    pub call_fits : {j : ℕ} → item ≡ Call j → WriteFits b offsets j words now buffer
    call_fits e = record { macro = call-inside x e; room = passing-room }

    -- one pass more
    pub passing-on : {v : List ℕ} {next : Pen} {more : List ℕ} → v ≡ keys_there → next ≡ pen_after now v → more ≡ buffer_after now v buffer → Wrote pen before (times (k + 1) keys_there) next more
    passing-on {v} {next} {more} e f g =
        let one_pass : Wrote now buffer keys_there next more = rw (← e) (record { behind = f; written = g }) in
        let one : times (k + 1) keys_there ≡ times k keys_there ++ keys_there = times-add k 1 keys_there ∙ ap (λ (l : List ℕ). times k keys_there ++ l) (times-one keys_there) in
        rw one (wrote-both x.room s one_pass)

    -- a pen that is done writes nothing more
    pub passing-done : (n : ℕ) → k ≤ n → now.left ≡ 0 → Wrote pen before (times n keys_there) now buffer
    passing-done n h z =
        let m : k + (n - k) ≡ n = omega arith in
        let all : times n keys_there ≡ times k keys_there ++ times (n - k) keys_there = sym (ap (λ (j : ℕ). times j keys_there) m) ∙ times-add k (n - k) keys_there in
        rw all (wrote-both x.room s (wrote-done now buffer (times (n - k) keys_there) z))

    pub passing-whole : (n : ℕ) → k ≡ n → Wrote pen before (times n keys_there) now buffer
    passing-whole n e = rw (← e) s

pub call-low : {item : Item} {j t : ℕ} → item ≡ Call j → depth_of item ≡ t → 2 * j + 1 < t
unfolding depth_of
call-low {item} {j} {t} e f = let here : 2 * j + 2 ≡ t = sym (ap depth_of e) ∙ f in omega arith

-- A macro's items.

-- what the first k write
abbrev pub up_to : List ℕ → List ℕ → ℕ → ℕ → List ℕ
up_to b offsets i k = expand (λ j. expansion (macros_in b) j) (unrolled (take k (decoded (items_from b offsets i))))

pub items-first : (b offsets : List ℕ) (i : ℕ) (first : Pen) (before : List ℕ) → Wrote first before (up_to b offsets i 0) first before
items-first b offsets i first before = rw (keys-none (λ j. expansion (macros_in b) j)) (wrote_none first before)

module _ {b offsets : List ℕ} {i : ℕ} {words : List ℕ} {pen : Pen} {before : List ℕ} (x : WriteFits b offsets i words pen before) where
  abbrev ms : List Macro
  ms = macros_in b

  abbrev items : Macro
  items = decoded (items_from b offsets i)

  well : well_formed ms ≡ true
  well = well-in b x.macro.inside

  its : items ≡ get_or ms i []
  its = items-are b offsets i x.macro.table x.macro.inside

  -- an item of the macro is a key, or calls a lower one, whose words stand in front
  served : (item : Item) (n : ℕ) → Memᴰ (repeated item n) (get_or ms i []) → Served ms words item
  unfolding Served
  served (Key k) n m = well-key ms well i m
  served (Call j) n m =
      let lower : j < i = well-call ms well i m in
      (omega (arith, lower, x.macro.inside), extended-less ms i (suc j) words (omega (arith, lower)) x.macro.below)

  low : (item : Item) (n : ℕ) → Memᴰ (repeated item n) (get_or ms i []) → depth_of item < 2 * i + 1
  unfolding depth_of
  low (Key k) n m = omega arith
  low (Call j) n m = omega (arith, well-call ms well i m)

  module _ (k : ℕ) {now : Pen} {buffer : List ℕ} (s : Wrote pen before (up_to b offsets i k) now buffer) where
    -- there is no more
    pub items-all : take k (decoded (items_from b offsets i)) ≡ decoded (items_from b offsets i) → Wrote pen before (expansion ms i) now buffer
    items-all h = rw (h ∙ its, ← expansion-law ms well i) at s

    module _ {next : Repeated} (e : slice_get items k ≡ Some next) where
      among : Memᴰ next (get_or ms i [])
      among = subst (Memᴰ next) its (item-in items k e)

      pub item-low : {t : ℕ} → 2 * i + 1 ≡ t → depth_of next.item < t
      item-low h = rw (← h) (low next.item next.times among)

      pub item-fits : ItemFits b offsets words next.item now buffer
      item-fits = record { table = x.macro.table; served = served next.item next.times among; room = wrote-room x.room s }

      abbrev keys_here : List ℕ
      keys_here = times next.times (keys_of (λ j. expansion ms j) next.item)

      pub items-on : {after : Pen} {more : List ℕ} → after ≡ pen_after now keys_here → more ≡ buffer_after now keys_here buffer → Wrote pen before (up_to b offsets i (k + 1)) after more
      items-on p q = rw (keys-more (λ j. expansion ms j) items k e) (wrote-both x.room s (record { behind = p; written = q }))
