-- `ranges::row_in` meets its contract: no step leaves 64 bits. Assumes nothing.
use mathlib.Core.Path.{refl}
use lib.Count.{count_leading_zeros}
use Rattle.ranges.specs.Words.{range_row}
use Rattle.ranges.proofs.row_in.Goals as goal

pub returns : goal.returns
unfolding range_row count_leading_zeros
returns c = refl
