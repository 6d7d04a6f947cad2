-- `dhcpopt_index::proved` meets its contract. Assumes nothing.
use Rattle.dhcpopt_index.proofs.Kept.{build_kept}
use Rattle.dhcpopt_index.proofs.proved.Goals as goal

pub returns : goal.returns
returns c = build_kept
