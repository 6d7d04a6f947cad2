-- `dhcpopt_reader::dhcpopt_present` meets its contract. Assumes nothing.
use mathlib.Core.Path.{ap, ◌∙◌}
use Rattle.dhcpopt_reader.specs.Plain.{plain_shown}
use Rattle.dhcpopt_reader.proofs.dhcpopt_present.Goals as goal

pub returns : goal.returns
returns c = c.from.ensures ∙ ap plain_shown c.present.ensures
