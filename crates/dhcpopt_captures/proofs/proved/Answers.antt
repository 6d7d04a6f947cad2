-- `dhcpopt_captures::proved` meets its contract. Assumes nothing.
use Rattle.dhcpopt_captures.proofs.Told.{begun_for_c, fed_for_c, progress_by_case, progress_by_case_both, captures_refused, captures_reported}
use Rattle.dhcpopt_captures.proofs.proved.Goals as goal

pub returns : goal.returns
returns c = (begun_for_c, fed_for_c, progress_by_case, progress_by_case_both, captures_refused, captures_reported)
