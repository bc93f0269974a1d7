-- The operations of the code, on any numbers. That they give the extent of one key, of runs one behind the other and of a repeated run are the
-- laws `key-extent`, `join-extents` and `repeat-extents`.
use Rattle.std.specs.Prelude.{ℕ, ◌+◌, ◌*◌, cond, eqb}
use Rattle.runs.specs.Keys.{line_end}
use Rattle.extents.specs.declared.extent.Extent.{Extent}
use Rattle.extents.specs.Capped.{capped}

abbrev pub no_extent : Extent
no_extent = record { ends = 0; first = 0; last = 0; keys = 0 }

-- one key
unfoldable pub key_extent : ℕ → Extent
key_extent k = cond (eqb k line_end) (record { ends = 1; first = 0; last = 0; keys = 1 }) (record { ends = 0; first = 1; last = 1; keys = 1 })

-- one run after the other
unfoldable pub joined_extents : Extent → Extent → Extent
joined_extents a b =
    record {
      ends = capped (a.ends + b.ends);
      first = cond (eqb a.ends 0) (capped (a.first + b.first)) a.first;
      last = cond (eqb b.ends 0) (capped (b.last + a.last)) b.last;
      keys = capped (a.keys + b.keys);
    }

-- a run n times; without a line end the keys at its two ends are all keys
unfoldable pub repeated_extent : ℕ → Extent → Extent
repeated_extent n a =
    cond (eqb n 0) no_extent
    (record {
      ends = capped (a.ends * n);
      first = capped (a.first * cond (eqb a.ends 0) n 1);
      last = capped (a.last * cond (eqb a.ends 0) n 1);
      keys = capped (a.keys * n);
    })
