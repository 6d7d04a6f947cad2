-- `sheet::proved` meets its contract: each statement by its proof. Assumes nothing.
use Rattle.sheet.proofs.Cases.{judged_by_case}
use Rattle.sheet.proofs.Steps.{step_is_the_walk}
use Rattle.sheet.proofs.Verdicts.{verdict_settles, verdict_counts}
use Rattle.sheet.proofs.proved.Goals as goal

pub returns : goal.returns
returns c = (step_is_the_walk, verdict_settles, verdict_counts, judged_by_case)
