-- `writer::fill_if` meets its contract. Assumes nothing.
use mathlib.Core.Path.{refl}
use Rattle.writer.proofs.fill_if.Goals as goal

pub returns-then-used : goal.returns-then-used
returns-then-used c = rw c.if-used.true c.fill.ensures

pub returns-else-used : goal.returns-else-used
returns-else-used c = rw c.if-used.false (refl, record { pieces = refl; spot_is = c.requires })
