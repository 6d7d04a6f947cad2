-- `dhcpopt_writer::proved` meets its contract. Assumes nothing.
use Rattle.dhcpopt_writer.proofs.Laws.{wrote_by_case, vendor_kept, relay_kept}
use Rattle.dhcpopt_writer.proofs.Grouped.{choice_kept, move_kept, back_kept}
use Rattle.dhcpopt_writer.proofs.proved.Goals as goal

pub returns : goal.returns
returns c = (wrote_by_case, vendor_kept, relay_kept, choice_kept, move_kept, back_kept)
