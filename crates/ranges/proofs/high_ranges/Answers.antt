-- `ranges::high_ranges` meets its contract: each `tt` is computed for the codes of its ranges. Assumes nothing.
use native.Mathlib.Omega.{arith}
use lib.Count.{count_leading_zeros}
use Rattle.ranges.specs.Rows.{row_number}
use Rattle.ranges.specs.Words.{range_row}
use Rattle.ranges.proofs.Computed.{rows_right}
use Rattle.ranges.proofs.high_ranges.Goals as goal

pub returns-then-c-lt41 : goal.returns-then-c-lt41
unfolding range_row row_number count_leading_zeros
returns-then-c-lt41 c = record { bytes = omega arith; row = rows_right _ _ 33 8 tt c.args.c (omega arith) (omega arith) }

pub returns-then-c-lt52 : goal.returns-then-c-lt52
unfolding range_row row_number count_leading_zeros
returns-then-c-lt52 c = record { bytes = omega arith; row = rows_right _ _ 41 11 tt c.args.c (omega arith) (omega arith) }

pub returns-then-c-lt61 : goal.returns-then-c-lt61
unfolding range_row row_number count_leading_zeros
returns-then-c-lt61 c = record { bytes = omega arith; row = rows_right _ _ 52 9 tt c.args.c (omega arith) (omega arith) }

pub returns : goal.returns
unfolding range_row row_number count_leading_zeros
returns c = record { bytes = omega arith; row = rows_right _ _ 61 16 tt c.args.c (omega arith) (omega arith) }
