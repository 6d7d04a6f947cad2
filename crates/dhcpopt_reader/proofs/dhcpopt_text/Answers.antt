-- `dhcpopt_reader::dhcpopt_text` meets its contract. Assumes nothing.
use mathlib.Core.Path.{ap, ◌∙◌}
use Rattle.dhcpopt_reader.specs.Plain.{plain_extent}
use Rattle.dhcpopt_reader.proofs.dhcpopt_text.Goals as goal

pub returns : goal.returns
returns c = c.from.ensures ∙ ap plain_extent c.text_extent.ensures
