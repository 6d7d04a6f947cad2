-- `c_theorems::ungroup_call` meets its contract. Assumes nothing.
use Rattle.message.proofs.Callers.{all_bytes}
use Rattle.c_theorems.proofs.Fills.{ungroup_refused}
use Rattle.c_theorems.proofs.ungroup_call.Goals as goal

pub returns : goal.returns
returns c = ungroup_refused c.args.f.now c.args.out.now (all_bytes c.args.f.now (λ i. (c.shared_slice_known-1.given i).fits)) _ _ c.dhcpopt_ungroup.ensures
