-- `dhcpopt_routes::dhcpopt_routes_ignored` meets its contract. Assumes nothing.
use mathlib.Core.Path.{ap, ◌∙◌}
use mathlib.Core.List.{[], ◌∷◌}
use Rattle.options.specs.CodeSet.{marked}
use Rattle.dhcpopt_routes.proofs.Kept.{told, ignored_told}
use Rattle.dhcpopt_routes.proofs.dhcpopt_routes_ignored.Goals as goal

pub returns : goal.returns
returns c = rw c.answered.ensures (ap told c.dhcpopt_lookup-a.ensures ∙ ignored_told (marked (c.args.k0 ∷ c.args.k1 ∷ c.args.k2 ∷ c.args.k3 ∷ [])) c.args.m.now)
