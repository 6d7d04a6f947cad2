-- `report::proved` meets its contract. Assumes nothing.
use Rattle.report.proofs.Whole.{file_is_reported}
use Rattle.report.proofs.proved.Goals as goal

pub returns : goal.returns
returns c = file_is_reported
