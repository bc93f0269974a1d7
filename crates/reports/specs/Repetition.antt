-- Document 02, S-8: what is kept of a run that is repeated, as an operation on any numbers. That it is what is kept of the repeated run is
-- the theorem `repeat-counts`. On numbers that no run gives, joinings may depend on their grouping (`words-differ`), so it is said here.
use Rattle.std.specs.Prelude.{ℕ, zero, suc, cond}
use Rattle.stateset.specs.Set.{bit}
use Rattle.reports.specs.declared.span_count.SpanCount.{SpanCount}
use Rattle.reports.specs.Reports.{empty_count, joined_counts}

-- 2^k passes
unfoldable pub doubled : ℕ → SpanCount → SpanCount
doubled zero a = a
doubled (suc k) a = joined_counts (doubled k a) (doubled k a)

-- as many passes as the lowest k binary digits of n say, those of the lowest digit first
unfoldable pub by_digits : ℕ → ℕ → SpanCount → SpanCount
by_digits n zero a = empty_count a.span.s
by_digits n (suc k) a = cond (bit n k) (joined_counts (by_digits n k a) (doubled k a)) (by_digits n k a)

-- n passes, where n is "a two-byte repeat count"
unfoldable pub repeated_count : ℕ → SpanCount → SpanCount
repeated_count n a = by_digits n 16 a
