-- `kinds::destinations_fit` meets its contract: the pairs that are left are judged as all are. Assumes nothing.
use mathlib.Core.Path.{◌≡◌}
use lib.ListN.{length}
use Rattle.options.specs.Kinds.{no_zero_first, addresses_of}
use Rattle.kinds.proofs.destinations_fit.Given as goal

abbrev pub invariant-loop-rest : goal.invariant-loop-rest
invariant-loop-rest l = no_zero_first (addresses_of l.rest) ≡ no_zero_first (addresses_of l.d)

abbrev pub decreases-loop-rest : goal.decreases-loop-rest
decreases-loop-rest l = length l.rest
