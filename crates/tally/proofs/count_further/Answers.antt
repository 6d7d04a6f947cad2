-- `tally::count_further` meets its contract. Assumes nothing.
use Rattle.std.proofs.Common.{arith}
use Rattle.tally.proofs.count_further.Goals as goal

pub returns : goal.returns
returns c = (omega (arith, c.wide.ensures), rw c.wide.ensures.0 at c.raise.ensures)
