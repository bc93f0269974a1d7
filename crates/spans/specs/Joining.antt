-- Spans of any words: joined, with one key more, and the lines at their ends. Rows and bits at s and above are ignored, where s is the
-- left span's. That they give the span of the one run after the other, and whether the line between them matches, are the theorems
-- `join-spans` and `extend-span`. docs/JOINING.md says the same in words.
use Rattle.std.specs.Prelude.{ℕ, ◌+◌, Bool, true, false, not, cond, ◌&&◌, ◌||◌, List, ltb, eqb, get_or}
use Rattle.runs.specs.Keys.{line_end}
use Rattle.stateset.specs.Set.{bit, word, any_below, common}
use Rattle.pattern.specs.declared.automaton.Accepting.{Accepting}
use Rattle.lines.specs.Lines.{carriage_return}
use Rattle.lines.specs.Moving.{looked_up}
use Rattle.spans.specs.declared.span.Span.{Span}
use Rattle.spans.specs.declared.span.Edges.{Edges}
use Rattle.spans.specs.declared.span.JoinedSpan.{JoinedSpan}
use Rattle.spans.specs.Spans.{no_rows, open_span, ended_span}

-- how many states there are: more than 32 are read as 32
abbrev pub state_count : ℕ → ℕ
state_count s = cond (ltb s 32) s 32

-- no CR at the end, no LF at the start
abbrev pub no_edges : Edges
no_edges = record { trimmed = 0; leading = false; trailing = false }

-- the empty run under a pattern with s states: each is reached from itself
abbrev pub empty_span : ℕ → Span
empty_span s = open_span (state_count s) (λ q p. eqb q p) no_edges

-- no move enters line-start (1 is its set), so of runs without a line end only the empty one leads there
abbrev pub is_empty : ℕ → Span → Bool
is_empty s a = not a.ended && common s (get_or a.rows 0 0) 1

-- the states that rows reach from the states of x
abbrev pub onward : ℕ → ℕ → List ℕ → ℕ → Bool
onward s x rows p = any_below s (λ r. bit x r && bit (get_or rows r 0) p)

-- the states from which the keys since the last LF lead to one of y; once there is an LF, from line-start alone
abbrev pub leads_into : ℕ → ℕ → Bool → Span → ℕ → Bool
leads_into s y false a q = common s (get_or a.rows q 0) y
leads_into s y true a q = eqb 0 q && common s a.tail y

-- less a final CR, by whether the right run has an LF
abbrev pub trims_joined : ℕ → Bool → Span → Span → ℕ → Bool
trims_joined s true a b q = bit b.edges.trimmed q
trims_joined s false a b q = leads_into s b.edges.trimmed a.ended a q || (is_empty s b && bit a.edges.trimmed q)

-- an empty run leaves the other one's start and end
unfoldable pub joined_edges : ℕ → Span → Span → Edges
joined_edges s a b =
    record {
      trimmed = word s (trims_joined s b.ended a b);
      leading = a.edges.leading || (is_empty s a && b.edges.leading);
      trailing = b.edges.trailing || (is_empty s b && a.edges.trailing);
    }

-- a CR and an LF meet
abbrev pub seam : Span → Span → Bool
seam a b = a.edges.trailing && b.edges.leading

-- the states from which the line across is accepted; and, where both have a line end, whether it is from line-start
abbrev pub heads_across : ℕ → Span → Span → ℕ → Bool
heads_across s a b q = cond (seam a b) (bit a.edges.trimmed q) (common s (get_or a.rows q 0) b.heads)

abbrev pub closes_across : ℕ → Span → Span → Bool
closes_across s a b = cond (seam a b) (common s a.edges.trimmed 1) (common s a.tail b.heads)

-- by whether each has a line end; the left run's last line and the right one's first are one line
abbrev pub joined_with : ℕ → Bool → Bool → Span → Span → JoinedSpan
joined_with s false false a b = record { span = open_span s (λ q. onward s (get_or a.rows q 0) b.rows) (joined_edges s a b); closes = false }
joined_with s false true a b = record { span = ended_span s (heads_across s a b) (bit b.tail) (joined_edges s a b); closes = false }
joined_with s true false a b = record { span = ended_span s (bit a.heads) (onward s a.tail b.rows) (joined_edges s a b); closes = false }
joined_with s true true a b = record { span = ended_span s (bit a.heads) (bit b.tail) (joined_edges s a b); closes = closes_across s a b }

unfoldable pub joined_spans : Span → Span → JoinedSpan
joined_spans a b = joined_with (state_count a.s) a.ended b.ended a b

-- the states that key k leads to from those of x, looked up in any tables
abbrev pub keyed : List ℕ → List ℕ → Accepting → ℕ → ℕ → ℕ → ℕ → Bool
keyed keys enter p k s x = bit (looked_up keys enter p (word s (bit x)) k)

-- a CR leaves the states from which the keys before it are accepted, another key none
abbrev pub return_edges : ℕ → Accepting → Span → Edges
return_edges s p a = record { trimmed = word s (leads_into s p.accepting a.ended a); leading = a.edges.leading; trailing = true }

abbrev pub key_edges : Span → Edges
key_edges a = record { trimmed = 0; leading = a.edges.leading; trailing = false }

unfoldable pub moved_edges : ℕ → Accepting → Span → ℕ → Edges
moved_edges s p a k = cond (eqb k carriage_return) (return_edges s p a) (key_edges a)

-- the states that a key which is no line end leads to; the edges are left
abbrev pub moved_with : ℕ → (ℕ → ℕ → Bool) → Bool → Span → Span
moved_with s X false a = open_span s (λ q. X (get_or a.rows q 0)) a.edges
moved_with s X true a = ended_span s (bit a.heads) (X a.tail) a.edges

abbrev pub moved_states : List ℕ → List ℕ → Accepting → Span → ℕ → Span
moved_states keys enter p a k = moved_with (state_count a.s) (keyed keys enter p k (state_count a.s)) a.ended a

-- the same span with other edges
abbrev pub with_edges : Edges → Span → Span
with_edges e a = record { s = a.s; rows = a.rows; ended = a.ended; heads = a.heads; tail = a.tail; edges = e }

-- one key more that is no line end
unfoldable pub moved_span : List ℕ → List ℕ → Accepting → Span → ℕ → Span
moved_span keys enter p a k = with_edges (moved_edges (state_count a.s) p a k) (moved_states keys enter p a k)

-- a line end alone: the empty line before it is accepted from the accepting states, and line-start follows
abbrev pub end_edges : Edges
end_edges = record { trimmed = 0; leading = true; trailing = false }

abbrev pub end_span : ℕ → Accepting → Span
end_span s p = record { s = s; rows = no_rows; ended = true; heads = p.accepting; tail = 1; edges = end_edges }

-- one key more: a line end is joined
unfoldable pub extended_span : List ℕ → List ℕ → Accepting → Span → ℕ → JoinedSpan
extended_span keys enter p a k =
    cond (eqb k line_end) (joined_spans a (end_span a.s p)) (record { span = moved_span keys enter p a k; closes = false })

-- whether the last part of a run has a key, so that line-start was left, and is accepted
abbrev pub last_line : ℕ → Accepting → ℕ → Bool
last_line s p x = not (common s x 1) && common s x p.accepting

-- the matching lines that are not closed between: the first and the last, or the one that is both (`matching-ends`)
abbrev pub ends_with : ℕ → Accepting → Bool → Span → ℕ
ends_with s p false a = cond (last_line s p (get_or a.rows 0 0)) 1 0
ends_with s p true a = cond (common s a.heads 1) 1 0 + cond (last_line s p a.tail) 1 0

unfoldable pub end_lines : Accepting → Span → ℕ
end_lines p a = ends_with (state_count a.s) p a.ended a
