-- `records::join` meets its contract: at each turn the data that are laid, with the pieces that are left, are the whole. Assumes nothing.
use Rattle.records.specs.Places.{bytes_left, joined_at}
use Rattle.records.proofs.Joining.{Gathering}
use Rattle.records.proofs.join.Given as goal

abbrev pub invariant-loop-i : goal.invariant-loop-i
invariant-loop-i l = Gathering l.over l.m l.initial.out l.at (joined_at l.over l.m l.from l.code) l.out l.o l.i l.code

abbrev pub decreases-loop-i : goal.decreases-loop-i
decreases-loop-i l = bytes_left l.m l.i
