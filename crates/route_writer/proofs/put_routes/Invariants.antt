-- `route_writer::put_routes` meets its contract: with what is left of the routes laid, all are. Assumes nothing.
use Rattle.std.proofs.Common.{◌≡◌}
use Rattle.route_writer.proofs.Laying.{Laying}
use Rattle.route_writer.proofs.put_routes.Given as goal

abbrev pub invariant-loop-route : goal.invariant-loop-route
invariant-loop-route l = Laying l.fn.s l.initial.out l.out l.route-iterator.rest.now l.o × (l.route-iterator.size ≡ 9)
