-- `dhcpopt_writer::dhcpopt_vendor_write` meets its contract. Assumes nothing.
use mathlib.Core.Path.{ap, ◌∙◌}
use Rattle.filled.specs.Plain.{plain_filled}
use Rattle.dhcpopt_writer.proofs.dhcpopt_vendor_write.Goals as goal

pub returns : goal.returns
returns c = (c.from.ensures ∙ ap plain_filled c.vendor_write.ensures.answer, c.vendor_write.ensures.buffer)
