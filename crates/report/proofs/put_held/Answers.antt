-- `report::put_held` meets its contract. Assumes nothing.
use Rattle.std.proofs.Common.{ne_eqb}
use Rattle.text.proofs.Putting.{puts_as}
use Rattle.report.proofs.Lines.{code_made}
use Rattle.report.proofs.put_held.Goals as goal

pub returns : goal.returns
returns c = rw (ne_eqb _ _ c.if-n-eq0.false) (puts_as (code_made c.args.code c.args.n c.args.size) c.put_line.ensures)
