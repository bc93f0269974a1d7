-- Document 02, S-3: numbers that stop at the largest of 64 bits.
use Rattle.std.specs.Prelude.{ℕ, ◌-◌, ◌^◌, cond, leb}

-- the largest number
abbrev pub most : ℕ
most = 2 ^ 64 - 1

-- the smaller of a number and the largest
unfoldable pub capped : ℕ → ℕ
capped n = cond (leb n most) n most
