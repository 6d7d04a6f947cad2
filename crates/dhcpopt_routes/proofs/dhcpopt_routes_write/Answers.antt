-- `dhcpopt_routes::dhcpopt_routes_write` meets its contract. Assumes nothing.
use Rattle.std.proofs.Common.{ap, ◌∙◌}
use Rattle.filled.specs.Plain.{plain_filled}
use Rattle.dhcpopt_routes.proofs.dhcpopt_routes_write.Goals as goal

pub returns : goal.returns
returns c = (c.from.ensures ∙ ap plain_filled c.write.ensures.answer, c.write.ensures.buffer)
