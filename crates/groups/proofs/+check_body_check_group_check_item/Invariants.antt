-- The cycle of calls {check_body, check_item, check_group}: the depth left falls from a body to its items. Assumes nothing.
use Prim.Native.Nat.{◌+◌, ◌-◌, ◌*◌}
use mathlib.Core.Path.{◌≡◌}
use lib.ListN.{length}
use Rattle.options.specs.Grouped.{fault_of}
use Rattle.groups.specs.Parts.{items_from}
use Rattle.groups.proofs.+check_body_check_group_check_item.Given as goal

abbrev pub decreases-check_body : goal.decreases-check_body
decreases-check_body l = 3 * l.depth

abbrev pub decreases-check_group : goal.decreases-check_group
decreases-check_group l = 3 * l.depth + 1

abbrev pub decreases-check_item : goal.decreases-check_item
decreases-check_item l = 3 * l.depth + 2

abbrev pub invariant-check_body-loop-next : goal.invariant-check_body-loop-next
invariant-check_body-loop-next l = fault_of (items_from l.s (l.depth - 1) l.i) ≡ fault_of (items_from l.s (l.depth - 1) l.at)

abbrev pub decreases-check_body-loop-next : goal.decreases-check_body-loop-next
decreases-check_body-loop-next l = length l.s - l.i
