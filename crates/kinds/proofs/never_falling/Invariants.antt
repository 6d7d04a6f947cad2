-- `kinds::never_falling` meets its contract: the numbers that are left, the first at least `least`, are judged as all are from 68. Assumes nothing.
use mathlib.Core.Path.{◌≡◌}
use lib.ListN.{length}
use Rattle.options.specs.Kinds.{rising, numbers_of}
use Rattle.kinds.proofs.never_falling.Given as goal

abbrev pub invariant-loop-rest : goal.invariant-loop-rest
invariant-loop-rest l = rising l.least (numbers_of l.rest) ≡ rising 68 (numbers_of l.d)

abbrev pub decreases-loop-rest : goal.decreases-loop-rest
decreases-loop-rest l = length l.rest
