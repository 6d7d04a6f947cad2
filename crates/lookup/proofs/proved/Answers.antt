-- `lookup::proved` meets its contract. Assumes nothing.
use Rattle.lookup.proofs.Cases.{content_by_case, origin_by_case, answer_by_case, extent_by_case}
use Rattle.lookup.proofs.proved.Goals as goal

pub returns : goal.returns
returns c = (content_by_case, origin_by_case, answer_by_case, extent_by_case)
