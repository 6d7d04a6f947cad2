-- `groups::outermost` meets its contract. Assumes nothing.
use native.Mathlib.Omega.{arith}
use Rattle.groups.proofs.Files.{outer_room}
use Rattle.groups.proofs.outermost.Goals as goal

pub overflow_add-result : goal.overflow_add-result
overflow_add-result c = let k = c.in-Record-eq0-default in
    omega (arith, outer_room c.args.f.now k.tag k.size k.ensures)
