-- The cycle of calls {choose_body, choose_item, choose_group}: the depth left falls from a body to its items. Assumes nothing.
use Prim.Native.Nat.{◌+◌, ◌-◌, ◌*◌}
use lib.ListN.{length}
use Rattle.choice.proofs.Laws.{Choosing}
use Rattle.choice.proofs.+choose_body_choose_group_choose_item.Given as goal

abbrev pub decreases-choose_body : goal.decreases-choose_body
decreases-choose_body l = 3 * l.depth

abbrev pub decreases-choose_group : goal.decreases-choose_group
decreases-choose_group l = 3 * l.depth + 1

abbrev pub decreases-choose_item : goal.decreases-choose_item
decreases-choose_item l = 3 * l.depth + 2

abbrev pub invariant-choose_body-loop-at : goal.invariant-choose_body-loop-at
invariant-choose_body-loop-at l = Choosing l.class l.s (l.depth - 1) l.at l.initial.out l.o l.out l.i l.e

abbrev pub decreases-choose_body-loop-at : goal.decreases-choose_body-loop-at
decreases-choose_body-loop-at l = length l.s - l.i
