-- `report_captures::fill_all`: what was taken so far. Assumes nothing.
use Rattle.tally.specs.Noted.{StaysLent}
use Rattle.report_captures.specs.Filled.{Filled}
use Rattle.report_captures.proofs.fill_all.Given as goal

abbrev pub invariant-loop : goal.invariant-loop
invariant-loop l = StaysLent l.initial.tally l.tally × Filled l.initial.kept l.initial.tally.verdicts.now l.initial.tally.held.now l.initial.tally.bytes.now l.input.total l.p l.kept l.tally.verdicts.now l.tally.held.now l.tally.bytes.now
