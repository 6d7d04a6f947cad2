-- `c_theorems::index_build_call` meets its contract. Assumes nothing.
use Rattle.c_theorems.proofs.Fills.{build_refused}
use Rattle.c_theorems.proofs.index_build_call.Goals as goal

pub returns : goal.returns
returns c = build_refused c.args.m.now c.args.index.now _ _ c.dhcpopt_index_build.ensures
