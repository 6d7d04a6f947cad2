-- `records::put_field` meets its contract: at each turn what is laid, with what is left of the field, is the whole. Assumes nothing.
use Prim.Native.Nat.{◌-◌}
use lib.ListN.{length}
use Rattle.records.proofs.Laying.{Laying}
use Rattle.records.proofs.put_field.Given as goal

abbrev pub invariant-loop-at : goal.invariant-loop-at
invariant-loop-at l = Laying l.f l.initial.out l.at l.out l.o l.i

abbrev pub decreases-loop-at : goal.decreases-loop-at
decreases-loop-at l = length l.f - l.i
