-- `c_theorems::relay_records_call` meets its contract. Assumes nothing.
use Rattle.c_theorems.proofs.RelayRefused.{relay_records_refused}
use Rattle.c_theorems.proofs.relay_records_call.Goals as goal

pub returns : goal.returns
returns c = relay_records_refused c.args.bytes.now c.args.out.now _ _ c.dhcpopt_relay_records.ensures
