-- `kinds::length_fits` meets its contract, arm by arm. Assumes nothing.
use borrow.Author.Tests.{ne_eqb}
use native.Mathlib.Omega.{arith}
use Prim.Native.Nat.{◌%◌}
use mir.Syntax.{Arms}
use Rattle.kinds.specs.Numbers.{row_at}
use Rattle.kinds.proofs.Entries.{arms_of, unlisted}
use Rattle.kinds.proofs.ByKind.{length_1, length_2, length_3, length_4, length_5, length_6, length_7, length_8, length_9, length_10, length_11, length_12, length_13, kindless, no_length}
use Rattle.kinds.proofs.length_fits.Lts as lts
use Rattle.kinds.proofs.length_fits.Goals as goal

-- as the code has them
abbrev arms : Arms
arms = arms_of lts.body

pub returns-then-row-eq-ROW_68 : goal.returns-then-row-eq-ROW_68
unfolding row_at
returns-then-row-eq-ROW_68 c = rw c.if-row-eq-ROW_68.true c.stepped.ensures

pub returns-then-row-eq-ROW_61 : goal.returns-then-row-eq-ROW_61
unfolding row_at
returns-then-row-eq-ROW_61 c = rw c.if-row-eq-ROW_61.true c.stepped-then-row-eq-ROW_61.ensures

pub returns-in-1 : goal.returns-in-1
returns-in-1 c = rw (length_1 _ (omega arith) c.in-1.is)

pub returns-else-row-eq-ROW_68 : goal.returns-else-row-eq-ROW_68
returns-else-row-eq-ROW_68 c = rw (length_2 _ (omega arith) c.in-2.is (rw (ne_eqb _ _ c.if-row-eq-ROW_68.false))) c.stepped-in-2.ensures

pub returns-in-3 : goal.returns-in-3
returns-in-3 c = rw (length_3 _ (omega arith) c.in-3.is) c.stepped-in-3.ensures

pub returns-in-4 : goal.returns-in-4
returns-in-4 c = rw (length_4 _ (omega arith) c.in-4.is)

pub returns-in-5 : goal.returns-in-5
returns-in-5 c = rw (length_5 _ (omega arith) c.in-5.is)

pub returns-in-6 : goal.returns-in-6
returns-in-6 c = rw (length_6 _ (omega arith) c.in-6.is)

pub returns-in-7 : goal.returns-in-7
returns-in-7 c = rw (length_7 _ (omega arith) c.in-7.is) c.stepped-in-7.ensures

pub returns-in-8 : goal.returns-in-8
returns-in-8 c = rw (length_8 _ (omega arith) c.in-8.is)

pub returns-in-9 : goal.returns-in-9
returns-in-9 c = rw (length_9 _ (omega arith) c.in-9.is)

pub returns-in-10 : goal.returns-in-10
returns-in-10 c = rw (length_10 _ (omega arith) c.in-10.is) c.stepped-in-10.ensures

pub returns-else-row-eq-ROW_61 : goal.returns-else-row-eq-ROW_61
returns-else-row-eq-ROW_61 c = rw (length_11 _ (omega arith) c.in-11.is (rw (ne_eqb _ _ c.if-row-eq-ROW_61.false))) c.stepped-in-11.ensures

pub returns-in-12 : goal.returns-in-12
returns-in-12 c = rw (length_12 _ (omega arith) c.in-12.is) c.stepped-in-12.ensures

pub returns-in-13 : goal.returns-in-13
returns-in-13 c = rw (length_13 _ (omega arith) c.in-13.is) c.stepped-in-13.ensures

pub returns-in_default : goal.returns-in_default
returns-in_default c = let n = c.args.row in
    rw (no_length n (omega arith) (unlisted kindless arms (n % 16) tt (omega arith) c.in_default.in_default-own.rest))
