-- `dhcpopt_reader::proved` meets its contract. Assumes nothing.
use Rattle.dhcpopt_reader.proofs.Kept.{answer_by_case, extent_by_case, address_by_case, codes_by_case, records_kept, copy_kept, vendor_kept}
use Rattle.dhcpopt_reader.proofs.Relay.{relay_is_by_case, absent_iff_no_start, relay_kept}
use Rattle.dhcpopt_reader.proofs.proved.Goals as goal

pub returns : goal.returns
returns c = (answer_by_case, extent_by_case, address_by_case, codes_by_case, records_kept, copy_kept, vendor_kept, relay_is_by_case, absent_iff_no_start, relay_kept)
