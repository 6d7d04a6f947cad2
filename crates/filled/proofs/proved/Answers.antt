-- `filled::proved` meets its contract. Assumes nothing.
use Rattle.filled.proofs.Answers.{fills_by_case}
use Rattle.filled.proofs.Kept.{filled_by_case}
use Rattle.filled.proofs.proved.Goals as goal

pub returns : goal.returns
returns c = (fills_by_case, filled_by_case)
