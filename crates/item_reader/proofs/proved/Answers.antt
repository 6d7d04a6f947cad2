-- `item_reader::proved` meets its contract: each statement by its proof. Assumes nothing.
use Rattle.item_reader.proofs.Cases.{walked_by_case}
use Rattle.item_reader.proofs.Identified.{id_by_case}
use Rattle.item_reader.proofs.proved.Goals as goal

pub returns : goal.returns
returns c = (id_by_case, walked_by_case)
