-- `trim::walk_if` meets its contract. Assumes nothing.
use mathlib.Core.Path.{sym, ap, ◌∙◌}
use native.Mathlib.Omega.{arith}
use lib.ListN.{length}
use Rattle.theorems.proofs.Lengths.{field_le}
use Rattle.message.specs.Fields.{field_of}
use Rattle.trim.proofs.walk_if.Goals as goal

pub returns-then-not-active : goal.returns-then-not-active
returns-then-not-active c = rw (sym c.active.ensures ∙ c.if-not-active.true) (tt {0})

pub walk-requires : goal.walk-requires
walk-requires c = omega (arith, c.requires, ap length c.field_bytes.ensures, field_le (field_of c.args.field) c.args.m.now)
