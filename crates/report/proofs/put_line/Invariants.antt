-- `report::put_line` meets its contract. Assumes nothing.
use Rattle.std.proofs.Common.{drop}
use Rattle.text.proofs.Putting.{Left}
use Rattle.report.specs.Printed.{more_text}
use Rattle.report.proofs.put_line.Given as goal

abbrev pub invariant-loop-n : goal.invariant-loop-n
invariant-loop-n l = Left l.initial.out l.initial.o (more_text l.others) l.out l.o (more_text (drop l.n-index l.others))
