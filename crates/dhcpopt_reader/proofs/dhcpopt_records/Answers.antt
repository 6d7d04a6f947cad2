-- `dhcpopt_reader::dhcpopt_records` meets its contract. Assumes nothing.
use mathlib.Core.Path.{ap, ◌∙◌}
use Rattle.filled.specs.Plain.{plain_filled}
use Rattle.dhcpopt_reader.proofs.dhcpopt_records.Goals as goal

pub returns : goal.returns
returns c = (c.from.ensures ∙ ap plain_filled c.records.ensures.answer, c.records.ensures.buffer)
