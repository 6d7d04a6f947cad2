-- `c_theorems::vendor_write_call` meets its contract. Assumes nothing.
use Rattle.message.proofs.Callers.{all_bytes}
use Rattle.c_theorems.proofs.Fills.{vendor_write_refused}
use Rattle.c_theorems.proofs.vendor_write_call.Goals as goal

pub returns : goal.returns
returns c = vendor_write_refused c.args.s.now c.args.out.now (all_bytes c.args.s.now (λ i. (c.shared_slice_known-1.given i).fits)) _ _ c.dhcpopt_vendor_write.ensures
