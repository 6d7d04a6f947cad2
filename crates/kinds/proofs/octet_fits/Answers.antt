-- `kinds::octet_fits` meets its contract, arm by arm. Assumes nothing.
use borrow.Author.Tests.{ne_eqb}
use native.Mathlib.Omega.{arith}
use Rattle.std.proofs.Common.{◌≢◌}
use Rattle.kinds.specs.Numbers.{row_at}
use Rattle.kinds.proofs.ByKind.{value_5}
use Rattle.kinds.proofs.octet_fits.Goals as goal

pub returns-in-21 : goal.returns-in-21
unfolding row_at
returns-in-21 c = rw c.in-21.is c.one_of_four.ensures

pub returns-in-37 : goal.returns-in-37
unfolding row_at
returns-in-37 c = rw c.in-37.is c.from_to.ensures

pub returns-in-53 : goal.returns-in-53
unfolding row_at
returns-in-53 c = rw c.in-53.is c.from_to-in-53.ensures

pub returns-in_default : goal.returns-in_default
returns-in_default c =
    let a : c.args.row ≢ 21 = omega arith in
    let b : c.args.row ≢ 37 = omega arith in
    let d : c.args.row ≢ 53 = omega arith in
    rw (value_5 c.args.row (omega arith) c.requires (rw (ne_eqb _ _ a, ne_eqb _ _ b, ne_eqb _ _ d))) c.from_to-in_default.ensures
