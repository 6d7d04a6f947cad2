-- `writer::fill_pieces` meets its contract. Assumes nothing.
use mathlib.Core.Path.{◌≡◌}
use Prim.Native.Nat.{◌+◌, ◌-◌, ◌*◌, ◌/◌}
use lib.ListN.{length}
use Rattle.writer.specs.Fill.{place_in, done_in}
use Rattle.writer.proofs.Filling.{Filling}
use Rattle.writer.proofs.fill_pieces.Given as goal

abbrev pub invariant-loop-at : goal.invariant-loop-at
invariant-loop-at l = Filling (length l.initial.field) l.s (place_in l.spot) (done_in l.spot) l.field l.at l.done l.end × (255 * (l.done / 255) ≡ l.done)

abbrev pub decreases-loop-at : goal.decreases-loop-at
decreases-loop-at l = length l.s - (l.at + l.done)
