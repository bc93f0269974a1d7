-- Laws of the work words of reports: rows read, and a report's words stored.
use Prim.Native.Nat.{ℕ, ◌+◌, ◌-◌, ◌≤◌}
use native.Mathlib.Omega.{arith}
use mathlib.Core.Path.{◌≡◌, sym, ap, ◌∙◌}
use mathlib.Core.List.{List, [], ◌∷◌, ◌++◌, append_assoc}
use lib.ListN.{length, take, drop, replicate, length-drop}
use lib.Seq.{length-take-le, drop-drop}
use borrow.Rule.Slice.PartMut.{put_mid}
use Rattle.std.specs.List.{between}
use Rattle.std.proofs.lemmas.List.{drop-replicate}
use Rattle.std.proofs.lemmas.Slice.{take-put_mid, drop-put_mid}
use Rattle.reports.specs.declared.report.Report.{Report}
use Rattle.reports.specs.Words.{behind_rows, words_with}

-- n words and zeros, 32 in all
abbrev pub padded : ℕ → List ℕ → List ℕ
padded n w = take n w ++ replicate (32 - n) 0

-- the words at a place, set over the first of 32 zeros
pub rows-read : (work : List ℕ) (at s : ℕ) {rows : List ℕ} → rows ≡ between at (at + s) work → rows ++ drop s (replicate 32 0) ≡ padded s (drop at work)
rows-read work at s e =
    let all : at + s - at ≡ s = omega arith in
    rw (e, all) (ap (λ (l : List ℕ). take s (drop at work) ++ l) (drop-replicate s 32 0))

-- the words behind the rows
abbrev pub words_behind : Report → List ℕ
words_behind r = r.flag ∷ r.heads ∷ r.closed ∷ r.tail ∷ r.trimmed ∷ r.edges ∷ []

-- the rows stored, and then the words behind them
pub stored-all : (old : List ℕ) (at : ℕ) (r : Report) {rows words : List ℕ} {k m : ℕ} → (r.s ≤ 32) × (at + (r.s + behind_rows) ≤ length old) → k ≡ r.s → m ≡ behind_rows → length rows ≡ length (take k (drop at old)) → rows ≡ take r.s r.rows → words ≡ words_behind r
    → put_mid (at + r.s) m (put_mid at k old rows) words ≡ words_with old at r
stored-all old at r {rows} {words} {k} {m} p e f l g h =
    let n = at + r.s in
    let before : at ≤ length old = omega arith in
    let size : length rows ≡ r.s = l ∙ length-take-le k (drop at old) (omega (arith, length-drop at old)) ∙ e in
    let head : take n (put_mid at k old rows) ≡ take at old ++ rows = take-put_mid at k old rows n (omega arith) before in
    let far : n + m ≡ at + (r.s + behind_rows) = omega arith in
    let rest : drop m (drop n (put_mid at k old rows)) ≡ drop (at + (r.s + behind_rows)) old = drop-drop m n (put_mid at k old rows) ∙ drop-put_mid at k old rows (n + m) (omega arith) before (size ∙ sym e) ∙ ap (λ (i : ℕ). drop i old) far in
    rw (head, rest, g, h) (simp append_assoc)
