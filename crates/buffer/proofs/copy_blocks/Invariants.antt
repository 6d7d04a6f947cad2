-- `buffer::copy_blocks` meets its contract. Assumes nothing.
use mathlib.Core.Path.{◌≡◌}
use Prim.Native.Nat.{◌+◌, ◌-◌, ◌≤◌}
use lib.ListN.{length, take, drop}
use Rattle.buffer.proofs.copy_blocks.Given as goal

abbrev pub invariant-loop-at : goal.invariant-loop-at
invariant-loop-at l = (l.at ≤ l.last) × (take l.at l.dst ≡ take l.at l.src) × (drop (l.at + 128) l.dst ≡ drop (l.at + 128) l.initial.dst) × (length l.dst ≡ length l.initial.dst)

abbrev pub decreases-loop-at : goal.decreases-loop-at
decreases-loop-at l = l.last - l.at
