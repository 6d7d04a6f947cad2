-- `ranges::low_ranges` meets its contract: each `tt` is computed for the codes of its ranges. Assumes nothing.
use native.Mathlib.Omega.{arith}
use lib.Count.{count_leading_zeros}
use Rattle.ranges.specs.Rows.{row_number}
use Rattle.ranges.specs.Words.{range_row}
use Rattle.ranges.proofs.Computed.{rows_right}
use Rattle.ranges.proofs.low_ranges.Goals as goal

pub returns-then-c-lt12 : goal.returns-then-c-lt12
unfolding range_row row_number count_leading_zeros
returns-then-c-lt12 c = record { bytes = omega arith; row = rows_right _ _ 0 12 tt c.args.c (omega arith) (omega arith) }

pub returns-then-c-lt23 : goal.returns-then-c-lt23
unfolding range_row row_number count_leading_zeros
returns-then-c-lt23 c = record { bytes = omega arith; row = rows_right _ _ 12 11 tt c.args.c (omega arith) (omega arith) }

pub returns : goal.returns
unfolding range_row row_number count_leading_zeros
returns c = record { bytes = omega arith; row = rows_right _ _ 23 10 tt c.args.c (omega arith) (omega arith) }
