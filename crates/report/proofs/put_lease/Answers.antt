-- `report::put_lease` meets its contract. Assumes nothing.
use Rattle.text.proofs.Putting.{puts_as}
use Rattle.report.proofs.Lines.{no_lease_line, lease_two}
use Rattle.report.proofs.put_lease.Goals as goal

pub returns-in-Some : goal.returns-in-Some
returns-in-Some c = rw c.in-Some.is (puts_as (lease_two c.in-Some.l.smallest c.in-Some.l.largest) c.put_line.ensures)

pub returns-in-None : goal.returns-in-None
returns-in-None c = rw c.in-None.is (puts_as no_lease_line c.put_word.ensures)
