-- `item_writer::put_items` meets its contract: at each turn what is laid, with what is left of the sheet, is the whole. Assumes nothing.
use Prim.Native.Nat.{◌-◌}
use lib.ListN.{length}
use Rattle.item_writer.proofs.Putting.{Putting}
use Rattle.item_writer.proofs.put_items.Given as goal

abbrev pub invariant-loop-at : goal.invariant-loop-at
invariant-loop-at l = Putting l.s l.initial.out l.out l.o l.at

abbrev pub decreases-loop-at : goal.decreases-loop-at
decreases-loop-at l = length l.s - l.at
