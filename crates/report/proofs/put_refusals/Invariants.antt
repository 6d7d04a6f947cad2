-- `report::put_refusals` meets its contract. Assumes nothing.
use Rattle.std.proofs.Common.{drop}
use Rattle.text.proofs.Putting.{Left}
use Rattle.options.specs.Captures.{refusals_lines}
use Rattle.report.proofs.put_refusals.Given as goal

abbrev pub invariant-loop-number : goal.invariant-loop-number
invariant-loop-number l = Left l.initial.out l.at (refusals_lines 1 (drop 1 l.verdicts)) l.out l.o (refusals_lines l.number (drop l.number l.verdicts))
