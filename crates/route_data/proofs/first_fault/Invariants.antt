-- `route_data::first_fault` meets its contract: the routes from a place on are judged as all are. Assumes nothing.
use mathlib.Core.Path.{◌≡◌}
use Prim.Native.Nat.{◌-◌, ◌≤◌}
use lib.ListN.{length, drop}
use Rattle.options.specs.Kinds.{routes_fault_value}
use Rattle.route_data.proofs.first_fault.Given as goal

abbrev pub invariant-loop-at : goal.invariant-loop-at
invariant-loop-at l = (l.at ≤ length l.d) × (routes_fault_value 0 (drop l.at l.d) ≡ routes_fault_value 0 l.d)

abbrev pub decreases-loop-at : goal.decreases-loop-at
decreases-loop-at l = length l.d - l.at
