-- `captures::proved` meets its contract. Assumes nothing.
use Rattle.captures.proofs.Beginning.{begun_empty}
use Rattle.captures.proofs.Cases.{standing_by_case}
use Rattle.captures.proofs.States.{every_state_stands, standing_is_tidy, never_wraps}
use Rattle.captures.proofs.proved.Goals as goal

pub returns : goal.returns
returns c = (begun_empty, every_state_stands, standing_is_tidy, never_wraps, standing_by_case)
