-- `c_theorems::route_step_call` meets its contract. Assumes nothing.
use Rattle.c_theorems.proofs.Routed.{route_step_for_c}
use Rattle.c_theorems.proofs.route_step_call.Goals as goal

pub returns : goal.returns
returns c = (route_step_for_c c.args.bytes.now c.args.at _).0 c.dhcpopt_route_step.ensures
