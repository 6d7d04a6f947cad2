-- THE ROW OF A KNOWN CODE: the contract of `known_row`. Assumes nothing.
use Rattle.std.specs.Prelude.{Bool, cond, ℕ}
use Rattle.ranges.specs.Rows.{row_number}

-- the number of the row of the code c; 0 where it has none, or is not in the known set
abbrev pub known_row_value : (ℕ → Bool) → ℕ → ℕ
known_row_value set c = cond (set c) (row_number c) 0
