-- `item_writer::proved` meets its contract. Assumes nothing.
use Rattle.item_writer.proofs.Cases.{judged_by_case}
use Rattle.item_writer.proofs.proved.Goals as goal

pub returns : goal.returns
returns c = judged_by_case
