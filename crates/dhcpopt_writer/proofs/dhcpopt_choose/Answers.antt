-- `dhcpopt_writer::dhcpopt_choose` meets its contract. Assumes nothing.
use mathlib.Core.Path.{ap, ◌∙◌}
use Rattle.filled.specs.Plain.{plain_filled}
use Rattle.dhcpopt_writer.proofs.dhcpopt_choose.Goals as goal

pub returns : goal.returns
returns c = let gave = c.choose.ensures in (c.from.ensures ∙ ap plain_filled gave.answer, gave.buffer)
