-- `route_data::first_fault` meets its contract: the routes from a place on are judged as all are. Assumes nothing.
use Rattle.std.proofs.Common.{◌≡◌, ◌+◌, ◌≤◌, length, get_or, drop, sym, ◌∙◌, rules, arith}
use Rattle.options.specs.Kinds.{width_bytes}
use Rattle.route_data.specs.Route.{fault_here}
use Rattle.route_data.proofs.Places.{routes_end, routes_stop, route_within, routes_next}
use Rattle.route_data.proofs.first_fault.Goals as goal

pub returns-in-Some : goal.returns-in-Some
returns-in-Some c = sym (routes_stop c.args.d.now c.loop-at.at c.loop-at-test.true c.in-Some.fault c.in-Some.ensures) ∙ c.loop-at.invariant.1

pub loop-at-preserved : goal.loop-at-preserved
loop-at-preserved c =
    let d = c.args.d.now in
    let z : fault_here (drop c.loop-at.at d) ≡ 0 = sym c.in_default.ensures in
    let within : c.loop-at.at + (width_bytes (get_or d c.loop-at.at 0) + 5) ≤ length d = route_within d c.loop-at.at c.loop-at-test.true z in
    (search rules, rw c.width_bytes-size.ensures (sym (routes_next d c.loop-at.at c.loop-at-test.true z) ∙ c.loop-at.invariant.1))

pub returns : goal.returns
returns c = sym (routes_end c.args.d.now c.loop-at.at (omega arith)) ∙ c.loop-at.invariant.1
