-- `groups::proved` meets its contract. Assumes nothing.
use Rattle.groups.proofs.Laws.{verdicts_come_back}
use Rattle.groups.proofs.Numbers.{check_kept, checked_by_case, answers_by_case, answers_come_back}
use Rattle.groups.proofs.proved.Goals as goal

pub returns : goal.returns
returns c = (checked_by_case, check_kept, verdicts_come_back, answers_by_case, answers_come_back)
