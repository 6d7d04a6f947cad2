-- `groups::past_records` meets its contract: at each turn what is left of the members gives the same place. Assumes nothing.
use mathlib.Core.Path.{◌≡◌}
use Prim.Native.Nat.{◌-◌}
use lib.ListN.{length, drop}
use Rattle.options.specs.SheetWalk.{records_from}
use Rattle.groups.specs.Parts.{past_records_value}
use Rattle.groups.proofs.past_records.Given as goal

abbrev pub invariant-loop-tag : goal.invariant-loop-tag
invariant-loop-tag l = past_records_value l.i (records_from l.i 0 (drop l.i l.s)) ≡ past_records_value l.at (records_from l.at 0 (drop l.at l.s))

abbrev pub decreases-loop-tag : goal.decreases-loop-tag
decreases-loop-tag l = length l.s - l.i
