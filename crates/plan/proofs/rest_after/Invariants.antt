-- `plan::rest_after` meets its contract. Assumes nothing.
use Prim.Native.Nat.{◌-◌}
use lib.ListN.{length}
use Rattle.plan.specs.Steps.{Single}
use Rattle.plan.proofs.Counting.{Counting}
use Rattle.plan.proofs.rest_after.Given as goal

abbrev pub invariant-loop-place : goal.invariant-loop-place
invariant-loop-place l = Counting l.room l.s l.initial.place l.done l.place l.done l.left × Single l.s l.single l.place l.done

abbrev pub decreases-loop-place : goal.decreases-loop-place
decreases-loop-place l = length l.s - l.place
