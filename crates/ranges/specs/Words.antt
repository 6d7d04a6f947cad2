-- EIGHT RANGES OF CODES IN TWO WORDS: no public contract rests on this. Assumes nothing.
use Rattle.std.specs.Prelude.{◌≡◌, Bool, not, ℕ, ◌+◌, ◌-◌, ◌*◌, ◌/◌, ◌%◌, ◌^◌, ◌≤◌, eqb}
use Rattle.std.specs.Int.Bits.{bit_and}
use Rattle.std.specs.Int.Count.{count_leading_zeros}
use Rattle.ranges.specs.declared.Ranges.{Ranges}
use Rattle.ranges.specs.Rows.{row_number}

-- the byte of `rows` that has the place of the highest byte of `firsts` that is at most c
unfoldable pub range_row : ℕ → ℕ → ℕ → ℕ
unfolding count_leading_zeros
range_row firsts rows c =
    rows / 2 ^ (56 - count_leading_zeros 64 (bit_and ((c + 128) * 72340172838076673 - firsts) 9259542123273814144) % 64 / 8 * 8) % 64

-- the row of c, by these ranges
pub record GivesRowOf (r : Ranges) (c : ℕ) : Type 0 where
  pub bytes : r.firsts ≤ 9259542123273814144
  pub row : range_row r.firsts r.rows c ≡ row_number c

-- the ranges that c has begun are not those that it has ended
unfoldable pub in_ranges_value : ℕ → ℕ → ℕ → Bool
in_ranges_value firsts ends c =
    not (eqb (bit_and ((c + 128) * 72340172838076673 - firsts) 9259542123273814144) (bit_and ((c + 128) * 72340172838076673 - ends) 9259542123273814144))
