-- `kinds::suboptions_fault` meets its contract: the sub-options that are left are judged as all are. Assumes nothing.
use mathlib.Core.Path.{◌≡◌}
use lib.ListN.{length}
use Rattle.options.specs.SubOptions.{sub_options, fill_fault}
use Rattle.kinds.proofs.suboptions_fault.Given as goal

abbrev pub invariant-loop-rest : goal.invariant-loop-rest
invariant-loop-rest l = fill_fault (sub_options 0 0 l.rest) ≡ fill_fault (sub_options 0 0 l.d)

abbrev pub decreases-loop-rest : goal.decreases-loop-rest
decreases-loop-rest l = length l.rest
