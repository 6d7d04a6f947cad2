-- `c_theorems::present_call` meets its contract. Assumes nothing.
use Rattle.c_theorems.proofs.Calls.{present_refused}
use Rattle.c_theorems.proofs.Shown.{present_for_c}
use Rattle.message.proofs.Callers.{all_bytes}
use Rattle.c_theorems.proofs.present_call.Goals as goal

pub returns : goal.returns
returns c = let e = c.dhcpopt_present.ensures in
    (present_refused c.args.m.now _ e, λ x. present_for_c c.args.m.now _ (all_bytes c.args.m.now (λ i. (c.shared_slice_known-1.given i).fits)) x e)
