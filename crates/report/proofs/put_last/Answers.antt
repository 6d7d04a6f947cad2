-- `report::put_last` meets its contract. Assumes nothing.
use Rattle.text.proofs.Putting.{puts_as, puts_none}
use Rattle.report.proofs.Lines.{nothing_last, refused_last}
use Rattle.report.proofs.put_last.Goals as goal

pub returns : goal.returns
returns c = puts_as (refused_last c.args.p _ c.is_open.ensures c.if-not-is_open.false) (rw c.number.ensures at c.put_line.ensures)
