-- `message::items` meets its contract. Assumes nothing.
use native.Mathlib.Omega.{arith}
use Rattle.options.specs.Reading.{parse}
use Rattle.options.specs.Vendor.{items_in}
use Rattle.message.specs.Scan.{told_of}
use Rattle.message.proofs.Bare.{told_small, measured, no_items}
use Rattle.message.proofs.items.Goals as goal

pub returns-then-f-eq0-clause-size : goal.returns-then-f-eq0-clause-size
returns-then-f-eq0-clause-size c = no_items c.args.f.now c.if-f-eq0.true

pub overflow_add-result : goal.overflow_add-result
overflow_add-result c = let z = told_small c.args.f.now (told_of c.in-Ok.s) c.in-Ok.ensures in
    omega (arith, z.0, z.1)

pub returns-in-Ok-clause-size : goal.returns-in-Ok-clause-size
returns-in-Ok-clause-size c = measured (items_in (parse 0 0 c.args.f.now)) (told_of c.in-Ok.s) c.in-Ok.ensures
