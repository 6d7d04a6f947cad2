-- `c_theorems::records_call` meets its contract. Assumes nothing.
use Rattle.c_theorems.proofs.Fills.{records_refused}
use Rattle.c_theorems.proofs.records_call.Goals as goal

pub returns : goal.returns
returns c = records_refused c.args.m.now c.args.out.now _ _ c.dhcpopt_records.ensures
