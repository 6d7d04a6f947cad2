-- `dhcpopt_reader::dhcpopt_vendor_records` meets its contract. Assumes nothing.
use mathlib.Core.Path.{ap, ◌∙◌}
use Rattle.filled.specs.Plain.{plain_filled}
use Rattle.dhcpopt_reader.proofs.dhcpopt_vendor_records.Goals as goal

pub returns : goal.returns
returns c = (c.from.ensures ∙ ap plain_filled c.vendor_records.ensures.answer, c.vendor_records.ensures.buffer)
