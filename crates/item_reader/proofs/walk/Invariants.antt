-- `item_reader::walk` meets its contract: at each turn what is left of the bytes, with what was met, tells of the whole. Assumes nothing.
use Prim.Native.Nat.{◌-◌}
use lib.ListN.{length}
use Rattle.item_reader.specs.Walked.{id_of}
use Rattle.item_reader.proofs.Walking.{Walking}
use Rattle.item_reader.proofs.walk.Given as goal

abbrev pub invariant-loop-at : goal.invariant-loop-at
invariant-loop-at l = Walking l.f l.count (id_of l.ids.circuit) (id_of l.ids.remote) l.at

abbrev pub decreases-loop-at : goal.decreases-loop-at
decreases-loop-at l = length l.f - l.at
