-- `item_writer::judge` meets its contract: at each turn what is left of the sheet gives the verdict on the whole. Assumes nothing.
use Prim.Native.Nat.{◌-◌}
use denote.Param.{number}
use lib.ListN.{length}
use Rattle.item_writer.specs.contracts.judge.{MARKED-type}
use Rattle.item_writer.proofs.Judging.{Judging}
use Rattle.item_writer.proofs.judge.Given as goal

abbrev pub invariant-loop-tag : goal.invariant-loop-tag
invariant-loop-tag g l = Judging (MARKED-type (number g.row.MARKED)) l.s l.total l.at

abbrev pub decreases-loop-tag : goal.decreases-loop-tag
decreases-loop-tag g l = length l.s - l.at
