-- `c_theorems::copy_call` meets its contract. Assumes nothing.
use borrow.Author.Rules.{rules}
use Prim.Native.Nat.{◌≤◌}
use Rattle.c_theorems.proofs.Fills.{copy_refused}
use Rattle.c_theorems.proofs.copy_call.Goals as goal

pub returns : goal.returns
returns c = let h : c.args.code ≤ 255 = search rules in
    copy_refused c.args.m.now c.args.code c.args.out.now h _ _ c.dhcpopt_copy.ensures
