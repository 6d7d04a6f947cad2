-- `c_theorems::check_grouped_call` meets its contract. Assumes nothing.
use Rattle.message.proofs.Callers.{all_bytes}
use Rattle.c_theorems.proofs.Calls.{check_refused}
use Rattle.c_theorems.proofs.check_grouped_call.Goals as goal

pub returns : goal.returns
returns c = check_refused c.args.f.now _ (all_bytes c.args.f.now (λ i. (c.shared_slice_known-1.given i).fits)) c.dhcpopt_check_grouped.ensures
