-- `c_theorems::relay_write_call` meets its contract. Assumes nothing.
use Rattle.message.proofs.Callers.{all_bytes}
use Rattle.c_theorems.proofs.RelayRefused.{relay_write_refused}
use Rattle.c_theorems.proofs.relay_write_call.Goals as goal

pub returns : goal.returns
returns c = relay_write_refused c.args.s.now c.args.out.now (all_bytes c.args.s.now (λ i. (c.shared_slice_known-1.given i).fits)) _ _ c.dhcpopt_relay_write.ensures
