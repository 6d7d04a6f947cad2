-- `ranges::in_ranges` meets its contract: no step leaves 64 bits. Assumes nothing.
use mathlib.Core.Path.{refl}
use Rattle.ranges.specs.Words.{in_ranges_value}
use Rattle.ranges.proofs.in_ranges.Goals as goal

pub returns : goal.returns
unfolding in_ranges_value
returns c = refl
