use mathlib.Core.Path.{refl}
use native.Mathlib.Omega.{arith}
use Rattle.dhcpopt_profile.proofs.Rows.{by_51, by_54, by_1, by_3}
use Rattle.dhcpopt_profile.proofs.unformed.Goals as goal

-- src/lib.rt:177:22
pub well_formed-requires : goal.well_formed-requires
well_formed-requires c = (c.requires, by_51)

-- src/lib.rt:178:23
pub well_formed-requires-2 : goal.well_formed-requires-2
well_formed-requires-2 c = (c.requires, by_54)

-- src/lib.rt:179:21
pub well_formed-requires-3 : goal.well_formed-requires-3
well_formed-requires-3 c = (c.requires, by_1)

-- src/lib.rt:180:23
pub well_formed-requires-4 : goal.well_formed-requires-4
well_formed-requires-4 c = (c.requires, by_3)

-- src/lib.rt:173:1
pub returns : goal.returns
returns c = (
  rw (c.bit-lease.ensures.0, c.well_formed-2.ensures, c.bit-server.ensures.0, c.well_formed-3.ensures, c.bit-mask.ensures.0, c.well_formed-4.ensures, c.bit-router.ensures.0, c.well_formed-5.ensures) refl,
  omega (arith, c.bit-lease.ensures.1, c.bit-server.ensures.1, c.bit-mask.ensures.1, c.bit-router.ensures.1),
)
