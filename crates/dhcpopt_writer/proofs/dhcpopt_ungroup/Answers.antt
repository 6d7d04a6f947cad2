-- `dhcpopt_writer::dhcpopt_ungroup` meets its contract. Assumes nothing.
use mathlib.Core.Path.{ap, ◌∙◌}
use Rattle.filled.specs.Plain.{plain_filled}
use Rattle.dhcpopt_writer.proofs.dhcpopt_ungroup.Goals as goal

pub returns : goal.returns
returns c = let gave = c.ungroup.ensures in (c.from.ensures ∙ ap plain_filled gave.answer, gave.buffer)
