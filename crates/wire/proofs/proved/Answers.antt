-- `wire::proved` meets its contract: each statement by its proof. Assumes nothing.
use Rattle.wire.proofs.Items.{item_keeps_the_option}
use Rattle.wire.proofs.proved.Goals as goal

pub returns : goal.returns
returns c = item_keeps_the_option
