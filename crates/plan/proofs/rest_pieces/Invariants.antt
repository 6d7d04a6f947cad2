-- `plan::rest_pieces` meets its contract. Assumes nothing.
use Prim.Native.Nat.{◌+◌, ◌-◌}
use lib.ListN.{length}
use Rattle.plan.proofs.Counting.{Counting}
use Rattle.plan.proofs.rest_pieces.Given as goal

abbrev pub invariant-loop-place : goal.invariant-loop-place
invariant-loop-place l = Counting l.room l.s l.initial.place l.initial.done l.place l.done l.left

abbrev pub decreases-loop-place : goal.decreases-loop-place
decreases-loop-place l = length l.s - (l.place + l.done)
