-- `dhcpopt_writer::dhcpopt_check_grouped` meets its contract. Assumes nothing.
use mathlib.Core.Path.{ap, ◌∙◌}
use Rattle.groups.specs.Check.{plain_checked}
use Rattle.dhcpopt_writer.proofs.dhcpopt_check_grouped.Goals as goal

pub returns : goal.returns
returns c = c.from.ensures ∙ ap plain_checked c.check.ensures
