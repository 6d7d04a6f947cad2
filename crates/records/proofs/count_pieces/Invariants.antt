-- `records::count_pieces` meets its contract: at each turn the table, with the pieces that are left counted, is the whole. Assumes nothing.
use Rattle.records.specs.Places.{bytes_left}
use Rattle.records.proofs.Joining.{Counting}
use Rattle.records.proofs.count_pieces.Given as goal

abbrev pub invariant-loop-i : goal.invariant-loop-i
invariant-loop-i l = Counting l.over l.m l.initial.table l.table l.from

abbrev pub decreases-loop-i : goal.decreases-loop-i
decreases-loop-i l = bytes_left l.m l.from
