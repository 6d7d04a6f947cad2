-- Each stage told by its own numbers. Assumes nothing.
use mathlib.Core.Path.{refl}
use Rattle.captures.specs.Standing.{StandingByCase}

pub standing_by_case : StandingByCase
standing_by_case b m l = (refl, refl, (λ h. refl), (λ n k. refl), refl)
