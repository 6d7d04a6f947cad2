-- `c_theorems::choose_call` meets its contract. Assumes nothing.
use Rattle.message.proofs.Callers.{all_bytes}
use Rattle.c_theorems.proofs.Fills.{choose_refused}
use Rattle.c_theorems.proofs.choose_call.Goals as goal

pub returns : goal.returns
returns c = choose_refused c.args.f.now c.args.class.now c.args.out.now (all_bytes c.args.f.now (λ i. (c.shared_slice_known-1.given i).fits)) _ _ c.dhcpopt_choose.ensures
