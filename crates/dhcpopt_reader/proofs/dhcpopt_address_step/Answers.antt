-- `dhcpopt_reader::dhcpopt_address_step` meets its contract. Assumes nothing.
use mathlib.Core.Path.{ap}
use Rattle.dhcpopt_reader.specs.Plain.{plain_address}
use Rattle.dhcpopt_reader.proofs.dhcpopt_address_step.Goals as goal

pub returns-in-Some : goal.returns-in-Some
returns-in-Some c = ap (plain_address c.args.at) c.in-Some.ensures

pub returns-in-None : goal.returns-in-None
returns-in-None c = ap (plain_address c.args.at) c.in-None.ensures
