-- `kinds::proved` meets its contract: each statement by its proof. Assumes nothing.
use Rattle.kinds.proofs.Names.{kinds_by_case}
use Rattle.kinds.proofs.Numbering.{numbers_keep_the_kind, faults_keep_the_number}
use Rattle.kinds.proofs.proved.Goals as goal

pub returns : goal.returns
returns c = (numbers_keep_the_kind, faults_keep_the_number, kinds_by_case)
