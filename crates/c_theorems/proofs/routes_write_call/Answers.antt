-- `c_theorems::routes_write_call` meets its contract. Assumes nothing.
use Rattle.c_theorems.proofs.Routed.{routes_write_refused}
use Rattle.c_theorems.proofs.routes_write_call.Goals as goal

pub returns : goal.returns
returns c = routes_write_refused c.args.s.now c.args.out.now _ _ c.dhcpopt_routes_write.ensures
