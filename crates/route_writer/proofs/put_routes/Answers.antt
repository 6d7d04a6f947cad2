-- `route_writer::put_routes` meets its contract: with what is left of the routes laid, all are. Assumes nothing.
use Rattle.std.proofs.Common.{◌≡◌, ◌<◌, refl, ◌∙◌, length, arith}
use Rattle.route_writer.proofs.Laying.{laying_begins, laying_ends, narrow_here, room_here, laying_on}
use Rattle.route_writer.proofs.put_routes.Goals as goal

pub loop-route-init : goal.loop-route-init
loop-route-init c =
    rw (c.into_iter-route-iterator.ensures.into_iter_gives, c.chunks_exact-route-items.ensures.rest, c.chunks_exact-route-items.ensures.size) (laying_begins c.args.s.now c.args.out.now c.requires.0 c.requires.1, refl)

pub put_route-o-requires : goal.put_route-o-requires
put_route-o-requires c =
    let step = c.in-Some.ensures.steps in
    let nine : length c.in-Some.route.now ≡ 9 = step.1.1 ∙ c.loop-route.invariant.1 in
    let y = c.loop-route.invariant.0 in
    let behind = c.next.new.self.rest.now in
    (omega (arith, nine), narrow_here y c.in-Some.route.now behind step.1.0 nine, room_here y c.in-Some.route.now behind step.1.0 nine)

pub loop-route-preserved : goal.loop-route-preserved
loop-route-preserved c =
    let step = c.in-Some.ensures.steps in
    let nine : length c.in-Some.route.now ≡ 9 = step.1.1 ∙ c.loop-route.invariant.1 in
    (laying_on c.loop-route.invariant.0 c.in-Some.route.now c.next.new.self.rest.now step.1.0 nine c.put_route-o.auto.out c.put_route-o.ensures, step.0 ∙ c.loop-route.invariant.1)

pub returns : goal.returns
returns c =
    let few : length c.loop-route.route-iterator.rest.now < 9 = omega (arith, c.in-None.ensures.steps.1.0, c.loop-route.invariant.1) in
    laying_ends c.loop-route.invariant.0 few
