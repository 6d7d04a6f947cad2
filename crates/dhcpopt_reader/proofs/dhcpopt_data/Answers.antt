-- `dhcpopt_reader::dhcpopt_data` meets its contract. Assumes nothing.
use mathlib.Core.Path.{ap, ◌∙◌}
use Rattle.dhcpopt_reader.specs.Plain.{plain_extent}
use Rattle.dhcpopt_reader.proofs.dhcpopt_data.Goals as goal

pub returns : goal.returns
returns c = c.from.ensures ∙ ap plain_extent c.data_extent.ensures
