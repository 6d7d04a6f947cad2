-- `cursor::proved` meets its contract: each statement by its proof. Assumes nothing.
use Rattle.cursor.proofs.Steps.{steps_give_the_options}
use Rattle.cursor.proofs.proved.Goals as goal

pub returns : goal.returns
returns c = steps_give_the_options
