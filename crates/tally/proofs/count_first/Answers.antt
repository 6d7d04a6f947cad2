-- `tally::count_first` meets its contract. Assumes nothing.
use Rattle.std.proofs.Common.{arith}
use Rattle.tally.proofs.count_first.Goals as goal

pub returns : goal.returns
returns c = (
  omega (arith, c.wide-k.ensures),
  c.insert.ensures.new,
  rw c.wide-k.ensures.0 at c.raise.ensures,
  rw c.wide-k.ensures.0 at c.raise-2.ensures,
)
