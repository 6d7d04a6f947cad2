-- `trim::proved` meets its contract. Assumes nothing.
use Rattle.trim.proofs.Ends.{options_end_is_right, one_end_place, behind_end_is_not_read, cut_reads_the_same, end_given_by_case, end_by_case, end_kept}
use Rattle.trim.proofs.proved.Goals as goal

pub returns : goal.returns
returns c = (options_end_is_right, one_end_place, behind_end_is_not_read, cut_reads_the_same, end_given_by_case, end_by_case, end_kept)
