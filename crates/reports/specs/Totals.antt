-- How many lines there are, where 64 bits count them: the one place that knows the largest count.
use Rattle.std.specs.Prelude.{ℕ, suc, ◌+◌, ◌-◌, ◌^◌, Bool, cond, Option, Some, None, leb}

-- the largest count
abbrev pub most : ℕ
most = 2 ^ 64 - 1

-- n lines, or none where there are more
abbrev pub total_of : ℕ → Option ℕ
total_of n = cond (leb n most) (Some n) None

-- a number whose total this is; beyond the largest count any would do
abbrev pub value_of : Option ℕ → ℕ
value_of (Some n) = n
value_of None = suc most

-- the lines of both (`total-sum`)
abbrev pub both_totals : Option ℕ → Option ℕ → Option ℕ
both_totals a b = total_of (value_of a + value_of b)

-- a line, if b
abbrev pub line_if : Bool → Option ℕ
line_if b = Some (cond b 1 0)
