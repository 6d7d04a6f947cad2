-- `tally::count_options` meets its contract. Assumes nothing.
use Rattle.records.specs.Places.{bytes_left}
use Rattle.tally.proofs.Counting.{Counting}
use Rattle.tally.proofs.count_options.Given as goal

abbrev pub invariant-loop-n : goal.invariant-loop-n
invariant-loop-n l = Counting l.over l.m l.initial.held l.initial.bytes l.met l.held l.bytes l.i

abbrev pub decreases-loop-n : goal.decreases-loop-n
decreases-loop-n l = bytes_left l.m l.i
