-- `tally::past_pads` meets its contract. Assumes nothing.
use Rattle.records.specs.Places.{bytes_left}
use Rattle.tally.specs.Noted.{Reaches}
use Rattle.tally.proofs.past_pads.Given as goal

abbrev pub invariant-loop-i : goal.invariant-loop-i
invariant-loop-i l = Reaches l.over l.m l.from l.i

abbrev pub decreases-loop-i : goal.decreases-loop-i
decreases-loop-i l = bytes_left l.m l.i
