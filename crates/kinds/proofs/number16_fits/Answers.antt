-- `kinds::number16_fits` meets its contract, arm by arm. Assumes nothing.
use borrow.Author.Tests.{ne_eqb}
use native.Mathlib.Omega.{arith}
use Rattle.kinds.specs.Numbers.{row_at}
use Rattle.kinds.proofs.ByKind.{value_6}
use Rattle.kinds.proofs.number16_fits.Goals as goal

pub returns-in-22 : goal.returns-in-22
unfolding row_at
returns-in-22 c = rw c.in-22.is

pub returns-in-38 : goal.returns-in-38
unfolding row_at
returns-in-38 c = rw c.in-38.is

pub returns-in_default : goal.returns-in_default
returns-in_default c = let r = c.in_default.in_default-own.rest in
    rw (value_6 c.args.row (omega arith) c.requires (rw (ne_eqb _ _ r.0.1, ne_eqb _ _ r.1)))
