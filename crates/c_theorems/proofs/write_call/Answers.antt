-- `c_theorems::write_call` meets its contract. Assumes nothing.
use Rattle.c_theorems.proofs.Calls.{write_refused}
use Rattle.message.proofs.Callers.{all_bytes}
use Rattle.c_theorems.proofs.write_call.Goals as goal

pub returns : goal.returns
returns c = write_refused c.args.s.now c.args.m.now c.args.permission _ _ (all_bytes c.args.s.now (λ i. (c.shared_slice_known-1.given i).fits)) c.dhcpopt_write.ensures
