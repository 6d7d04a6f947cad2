-- `dhcpopt_routes::proved` meets its contract. Assumes nothing.
use Rattle.dhcpopt_routes.proofs.Kept.{route_by_case, ignored_by_case, ignored_kept, routes_kept}
use Rattle.dhcpopt_routes.proofs.proved.Goals as goal

pub returns : goal.returns
returns c = (route_by_case, ignored_by_case, ignored_kept, routes_kept)
