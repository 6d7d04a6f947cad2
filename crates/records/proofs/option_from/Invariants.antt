-- `records::option_from` meets its contract: at each turn the options that are left are the same. Assumes nothing.
use Rattle.records.specs.Places.{bytes_left}
use Rattle.records.proofs.Places.{Nearing}
use Rattle.records.proofs.option_from.Given as goal

abbrev pub invariant-loop-i : goal.invariant-loop-i
invariant-loop-i l = Nearing l.over l.m l.from l.i

abbrev pub decreases-loop-i : goal.decreases-loop-i
decreases-loop-i l = bytes_left l.m l.i
