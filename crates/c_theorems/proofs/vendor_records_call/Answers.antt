-- `c_theorems::vendor_records_call` meets its contract. Assumes nothing.
use Rattle.c_theorems.proofs.Fills.{vendor_records_refused}
use Rattle.c_theorems.proofs.vendor_records_call.Goals as goal

pub returns : goal.returns
returns c = vendor_records_refused c.args.bytes.now c.args.out.now _ _ c.dhcpopt_vendor_records.ensures
