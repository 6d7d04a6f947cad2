-- `regroup::is_plain` meets its contract: at each turn what is left of the file gives the answer for the whole. Assumes nothing.
use mathlib.Core.Path.{◌≡◌}
use Prim.Native.Nat.{◌-◌}
use lib.ListN.{length, drop}
use Rattle.options.specs.SheetWalk.{records_from}
use Rattle.regroup.specs.Parts.{none_group, plain_in}
use Rattle.regroup.proofs.is_plain.Given as goal

abbrev pub invariant-loop-tag : goal.invariant-loop-tag
invariant-loop-tag l = none_group (records_from l.at 0 (drop l.at l.f)) ≡ plain_in l.f

abbrev pub decreases-loop-tag : goal.decreases-loop-tag
decreases-loop-tag l = length l.f - l.at
