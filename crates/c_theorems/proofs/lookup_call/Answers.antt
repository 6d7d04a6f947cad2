-- `c_theorems::lookup_call` meets its contract. Assumes nothing.
use borrow.Author.Rules.{rules}
use Prim.Native.Nat.{◌≤◌}
use Rattle.c_theorems.proofs.Calls.{lookup_refused}
use Rattle.c_theorems.proofs.Shown.{lookup_for_c}
use Rattle.c_theorems.proofs.lookup_call.Goals as goal

pub returns : goal.returns
returns c = let e = c.dhcpopt_lookup.ensures in
    let h : c.args.code ≤ 255 = search rules in
    (lookup_refused c.args.k0 c.args.k1 c.args.k2 c.args.k3 c.args.m.now c.args.code _ h e, (lookup_for_c c.args.k0 c.args.k1 c.args.k2 c.args.k3 c.args.m.now c.args.code _ h).0 e)
