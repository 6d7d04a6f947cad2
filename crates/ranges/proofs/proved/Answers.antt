-- `ranges::proved` meets its contract: each statement by its proof. Assumes nothing.
use Rattle.ranges.proofs.Kept.{numbers_keep_the_row}
use Rattle.ranges.proofs.proved.Goals as goal

pub returns : goal.returns
returns c = numbers_keep_the_row
