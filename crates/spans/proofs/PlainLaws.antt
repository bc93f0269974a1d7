-- Spans without edges: joined, each does to the states what the one does and then the other. It holds of any sets, not of runs alone.
use Prim.Native.Nat.{ℕ, ◌<◌, ◌≤◌}
use mathlib.Core.Path.{◌≡◌, refl, ap, ◌∙◌}
use mathlib.Core.Bool.{Bool, false, ◌&&◌}
use lib.ListN.{get_or}
use Rattle.stateset.specs.Set.{bit, word, any_below, common}
use Rattle.stateset.proofs.Sets.{bit_word}
use Rattle.spans.specs.declared.span.Span.{Span}
use Rattle.spans.specs.Spans.{rows_of, open_span, ended_span}
use Rattle.spans.specs.Joining.{no_edges, onward, heads_across, joined_with, joined_spans}
use Rattle.spans.proofs.RowLaws.{states-all, row_of, rows_same, common-told, onward-told}
use Rattle.spans.proofs.SpanLaws.{both-same, open-same, ends_same, joined_by}
use Rattle.spans.proofs.EdgeLaws.{join-plain}

-- whether two sets of states below s meet, and the states that Y leads to from those of X
abbrev pub meeting : ℕ → (ℕ → Bool) → (ℕ → Bool) → Bool
meeting s X Y = any_below s (λ r. X r && Y r)

abbrev pub onwards : ℕ → (ℕ → Bool) → (ℕ → ℕ → Bool) → ℕ → Bool
onwards s X Y p = any_below s (λ r. X r && Y r p)

-- without a line end, and with one
abbrev pub plain_open : ℕ → (ℕ → ℕ → Bool) → Span
plain_open s X = open_span s X no_edges

abbrev pub plain_ended : ℕ → (ℕ → Bool) → (ℕ → Bool) → Span
plain_ended s H T = ended_span s H T no_edges

module _ (s : ℕ) (few : s ≤ 32) where
  -- whether two words meet, and what rows lead to from a word
  meet : (X Y : ℕ → Bool) → common s (word s X) (word s Y) ≡ meeting s X Y
  meet X Y = common-told s (word s X) X (bit_word s X) (word s Y) Y (bit_word s Y)

  lead : (X : ℕ → Bool) (Y : ℕ → ℕ → Bool) (p : ℕ) → p < s → onward s (word s X) (rows_of s Y) p ≡ onwards s X Y p
  lead X Y p h = onward-told s (word s X) X (bit_word s X) Y p few h

  -- by whether each has a line end
  joined_small : (a b : Span) → a.s ≡ s → joined_spans a b ≡ joined_with s a.ended b.ended a b
  joined_small a b e = joined_by a b ∙ ap (λ (k : ℕ). joined_with k a.ended b.ended a b) (rw e (states-all s few))

  module _ (X Y : ℕ → ℕ → Bool) where
    pub join-open : joined_spans (plain_open s X) (plain_open s Y) ≡ record { span = plain_open s (λ q. onwards s (X q) Y); closes = false }
    join-open =
        joined_small (plain_open s X) (plain_open s Y) refl
        ∙ both-same refl
        (open-same s
        (rows_same s (λ q. onward s (get_or (rows_of s X) q 0) (rows_of s Y)) (λ q. onwards s (X q) Y) (λ q p h l. rw (row_of s X q h few) (lead (X q) Y p l)))
        (join-plain s (plain_open s X) (plain_open s Y) refl refl))

  module _ (X : ℕ → ℕ → Bool) (H T : ℕ → Bool) where
    pub join-opening : joined_spans (plain_open s X) (plain_ended s H T) ≡ record { span = plain_ended s (λ q. meeting s (X q) H) T; closes = false }
    join-opening =
        joined_small (plain_open s X) (plain_ended s H T) refl
        ∙ both-same refl
        (ends_same s
        (heads_across s (plain_open s X) (plain_ended s H T))
        (λ q. meeting s (X q) H)
        (bit (word s T))
        T
        (λ q h. rw (row_of s X q h few) (meet (X q) H))
        (bit_word s T)
        (join-plain s (plain_open s X) (plain_ended s H T) refl refl))

    pub join-ending : joined_spans (plain_ended s H T) (plain_open s X) ≡ record { span = plain_ended s H (onwards s T X); closes = false }
    join-ending =
        joined_small (plain_ended s H T) (plain_open s X) refl
        ∙ both-same refl
        (ends_same s
        (bit (word s H))
        H
        (onward s (word s T) (rows_of s X))
        (onwards s T X)
        (bit_word s H)
        (lead T X)
        (join-plain s (plain_ended s H T) (plain_open s X) refl refl))

  module _ (H T G S : ℕ → Bool) where
    pub join-ended : joined_spans (plain_ended s H T) (plain_ended s G S) ≡ record { span = plain_ended s H S; closes = meeting s T G }
    join-ended =
        joined_small (plain_ended s H T) (plain_ended s G S) refl
        ∙ both-same (meet T G)
        (ends_same s
        (bit (word s H))
        H
        (bit (word s S))
        S
        (bit_word s H)
        (bit_word s S)
        (join-plain s (plain_ended s H T) (plain_ended s G S) refl refl))
