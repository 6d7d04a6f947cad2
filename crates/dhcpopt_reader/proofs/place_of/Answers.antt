-- `dhcpopt_reader::place_of` meets its contract. Assumes nothing.
use borrow.Author.Tests.{eq-eqb, ne_eqb}
use Rattle.dhcpopt_reader.proofs.place_of.Goals as goal

pub returns-then-status-eq5 : goal.returns-then-status-eq5
returns-then-status-eq5 c = rw (eq-eqb _ _ c.if-status-eq5.true)

pub returns-else-status-eq5 : goal.returns-else-status-eq5
returns-else-status-eq5 c = rw (ne_eqb _ _ c.if-status-eq5.false)
