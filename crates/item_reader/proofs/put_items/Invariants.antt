-- `item_reader::put_items` meets its contract: at each turn what is laid, with what is left of the items, is the whole. Assumes nothing.
use Prim.Native.Nat.{◌-◌}
use lib.ListN.{length}
use denote.Param.{number}
use Rattle.item_reader.specs.contracts.put_items.{MARKED-type}
use Rattle.item_reader.proofs.Laying.{Laying}
use Rattle.item_reader.proofs.put_items.Given as goal

abbrev pub invariant-loop-i : goal.invariant-loop-i
invariant-loop-i g l = Laying (MARKED-type (number g.row.MARKED)) l.f l.initial.out l.out l.o l.i

abbrev pub decreases-loop-i : goal.decreases-loop-i
decreases-loop-i g l = length l.f - l.i
