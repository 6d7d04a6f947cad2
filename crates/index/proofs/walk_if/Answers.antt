-- `index::walk_if` meets its contract. Assumes nothing.
use mathlib.Core.Path.{sym, ap, ◌∙◌}
use native.Mathlib.Omega.{arith}
use lib.ListN.{length}
use Rattle.theorems.proofs.Lengths.{field_le}
use Rattle.message.specs.Fields.{field_of}
use Rattle.index.proofs.Steps.{enters_none}
use Rattle.index.proofs.walk_if.Goals as goal

pub returns-then-not-active : goal.returns-then-not-active
returns-then-not-active c = rw (sym c.active.ensures ∙ c.if-not-active.true) (c.requires.1, enters_none (tt {0}) c.args.index.now)

pub walk-requires : goal.walk-requires
walk-requires c = (omega (arith, c.requires.0, ap length c.field_bytes.ensures, field_le (field_of c.args.field) c.args.m.now), c.requires.1)
