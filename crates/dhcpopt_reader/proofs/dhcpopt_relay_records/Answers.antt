-- `dhcpopt_reader::dhcpopt_relay_records` meets its contract. Assumes nothing.
use mathlib.Core.Path.{◌∙◌}
use Rattle.dhcpopt_reader.proofs.Relay.{plain_read}
use Rattle.dhcpopt_reader.proofs.dhcpopt_relay_records.Goals as goal

pub returns : goal.returns
returns c = (c.from.ensures ∙ plain_read _ c.relay_records.result _ c.relay_records.ensures, c.relay_records.ensures.fills.buffer)
