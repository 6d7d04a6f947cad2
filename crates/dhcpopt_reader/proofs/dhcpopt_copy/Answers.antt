-- `dhcpopt_reader::dhcpopt_copy` meets its contract. Assumes nothing.
use mathlib.Core.Path.{ap, ◌∙◌}
use Rattle.filled.specs.Plain.{plain_filled}
use Rattle.dhcpopt_reader.proofs.dhcpopt_copy.Goals as goal

pub returns : goal.returns
returns c = (c.from.ensures ∙ ap plain_filled c.copy.ensures.answer, c.copy.ensures.buffer)
