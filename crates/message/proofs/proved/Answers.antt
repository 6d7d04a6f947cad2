-- `message::proved` meets its contract: each statement by its proof. Assumes nothing.
use Rattle.message.proofs.Names.{fields_come_back}
use Rattle.message.proofs.Cases.{told_by_case, refused_by_case, measured_by_case}
use Rattle.message.proofs.proved.Goals as goal

pub returns : goal.returns
returns c = (fields_come_back, told_by_case, refused_by_case, measured_by_case)
