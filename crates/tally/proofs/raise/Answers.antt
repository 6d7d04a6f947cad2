-- `tally::raise` meets its contract. Assumes nothing.
use Rattle.std.proofs.Common.{arith}
use Rattle.tally.proofs.Laws.{raises_one, raises_past}
use Rattle.tally.proofs.raise.Goals as goal

pub returns-then-k-numbers : goal.returns-then-k-numbers
returns-then-k-numbers c = rw c.wrapping_add_u64.ensures.value (raises_one c.args.numbers.now c.args.k c.args.n c.if-k-numbers.true)

pub returns-else-k-numbers : goal.returns-else-k-numbers
returns-else-k-numbers c = raises_past c.args.numbers.now c.args.k c.args.n (omega (arith, c.if-k-numbers.false))
