-- `codeset::contains` meets its contract. Assumes nothing.
use mathlib.Core.Path.{refl}
use Rattle.codeset.proofs.contains.Goals as goal

pub returns : goal.returns
returns c = rw c.holding-x.ensures refl
