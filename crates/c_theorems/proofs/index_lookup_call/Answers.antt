-- `c_theorems::index_lookup_call` meets its contract. Assumes nothing.
use borrow.Author.Rules.{rules}
use Prim.Native.Nat.{◌≤◌}
use Rattle.c_theorems.proofs.Calls.{index_lookup_refused}
use Rattle.c_theorems.proofs.index_lookup_call.Goals as goal

pub returns : goal.returns
returns c = let h : c.args.code ≤ 255 = search rules in
    index_lookup_refused c.args.k0 c.args.k1 c.args.k2 c.args.k3 c.args.m.now c.args.index.now c.args.code _ h c.dhcpopt_index_lookup.ensures
