-- `plan::proved` meets its contract. Assumes nothing.
use Rattle.plan.proofs.Numbers.{choice_by_case, chosen_by_case, refusals_are_numbered}
use Rattle.plan.proofs.proved.Goals as goal

pub returns : goal.returns
returns c = (choice_by_case, chosen_by_case, refusals_are_numbered)
