-- `c_theorems::data_call` meets its contract. Assumes nothing.
use Rattle.c_theorems.proofs.Calls.{data_refused}
use Rattle.c_theorems.proofs.Shown.{data_for_c}
use Rattle.c_theorems.proofs.data_call.Goals as goal

pub returns : goal.returns
returns c = (data_refused c.args.m.now c.args.code _ c.dhcpopt_data.ensures, data_for_c c.args.m.now c.args.code _ c.dhcpopt_data.ensures)
