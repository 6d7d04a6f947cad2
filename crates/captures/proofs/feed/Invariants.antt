-- `captures::feed` meets its contract. Assumes nothing.
use Rattle.std.proofs.Common.{length}
use Rattle.tally.specs.Noted.{StaysLent}
use Rattle.captures.specs.Standing.{told_by}
use Rattle.captures.proofs.Runs.{Feeding}
use Rattle.captures.proofs.feed.Given as goal

abbrev pub invariant-loop-rest : goal.invariant-loop-rest
invariant-loop-rest l = StaysLent l.initial.tally l.tally × Feeding l.part (told_by l.initial.q) l.initial.message l.initial.tally.verdicts.now l.initial.tally.held.now l.initial.tally.bytes.now (told_by l.q) l.message l.tally.verdicts.now l.tally.held.now l.tally.bytes.now l.rest

abbrev pub decreases-loop-rest : goal.decreases-loop-rest
decreases-loop-rest l = length l.rest
