-- `message::pass` meets its contract: at each turn what is left gives the same as the whole. Assumes nothing.
use Prim.Native.Nat.{◌-◌, ◌<◌}
use lib.ListN.{length}
use Rattle.message.specs.Walk.{Passing}
use denote.Param.{number}
use Rattle.message.specs.contracts.pass.{MARKED-type}
use Rattle.message.proofs.pass.Given as goal

abbrev pub invariant-loop-end : goal.invariant-loop-end
invariant-loop-end g l = record { passing : Passing l.watched (MARKED-type (number g.row.MARKED)) l.f l.from l.initial.set l.i l.count l.set; room : l.i < l.end }

abbrev pub decreases-loop-end : goal.decreases-loop-end
decreases-loop-end g l = length l.f - l.i
