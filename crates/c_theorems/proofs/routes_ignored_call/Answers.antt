-- `c_theorems::routes_ignored_call` meets its contract. Assumes nothing.
use Rattle.c_theorems.proofs.Routed.{ignored_refused, ignored_for_c}
use Rattle.c_theorems.proofs.routes_ignored_call.Goals as goal

pub returns : goal.returns
returns c = let e = c.dhcpopt_routes_ignored.ensures in
    (ignored_refused c.args.k0 c.args.k1 c.args.k2 c.args.k3 c.args.m.now _ e, ignored_for_c c.args.k0 c.args.k1 c.args.k2 c.args.k3 c.args.m.now _ e)
