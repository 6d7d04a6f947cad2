-- `message::walk` meets its contract: at each turn what is left of the field gives the same as the whole. Assumes nothing.
use Prim.Native.Nat.{◌-◌}
use lib.ListN.{length}
use Rattle.std.specs.Prelude.{Ok}
use Rattle.message.specs.Walk.{ending_of}
use Rattle.message.proofs.Walks.{Going}
use denote.Param.{number}
use Rattle.message.specs.contracts.walk.{MARKED-type}
use Rattle.message.proofs.walk.Given as goal

abbrev pub invariant-loop-s : goal.invariant-loop-s
invariant-loop-s g l = Going l.watched (MARKED-type (number g.row.MARKED)) l.options l.want l.base l.f (ending_of (Ok l.s)) l.initial.set l.k l.count l.pads l.i l.set

abbrev pub decreases-loop-s : goal.decreases-loop-s
decreases-loop-s g l = length l.f - l.i
