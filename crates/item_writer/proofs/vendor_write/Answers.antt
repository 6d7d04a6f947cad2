-- `item_writer::vendor_write` meets its contract. Assumes nothing.
use Rattle.item_writer.proofs.Outcomes.{vendor_is}
use Rattle.item_writer.proofs.vendor_write.Goals as goal

pub returns : goal.returns
returns c = rw (vendor_is c.args.s.now c.args.out.now) c.write.ensures
