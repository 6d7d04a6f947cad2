-- `c_theorems::group_call` meets its contract. Assumes nothing.
use Rattle.message.proofs.Callers.{all_bytes}
use Rattle.c_theorems.proofs.Fills.{group_refused}
use Rattle.c_theorems.proofs.group_call.Goals as goal

pub returns : goal.returns
returns c = group_refused c.args.s.now c.args.out.now (all_bytes c.args.s.now (λ i. (c.shared_slice_known-1.given i).fits)) _ _ c.dhcpopt_group.ensures
