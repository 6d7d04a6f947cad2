-- `route_writer::write` meets its contract. Assumes nothing.
use Rattle.std.proofs.Common.{length, arith}
use Rattle.options.specs.Routes.{first_faulty, route_bytes}
use Rattle.route_theorems.proofs.Written.{first_from_lem}
use Rattle.route_writer.proofs.Outcomes.{handed_on, was_right, fills_26, fills_11, fills_bytes}
use Rattle.route_writer.proofs.write.Goals as goal

pub returns-in_err-size : goal.returns-in_err-size
returns-in_err-size c = rw (handed_on c.from_residual.result c.in_err-size.field-0.0 c.from_residual.ensures.1) (fills_26 c.args.s.now c.args.out.now c.in_err-size.field-0.0 c.in_err-size.ensures)

pub returns-then-room-size : goal.returns-then-room-size
returns-then-room-size c =
    let s = c.args.s.now in
    let q = was_right (first_faulty s) (length (route_bytes 0 s)) c.in_ok-size.size c.in_ok-size.ensures in
    fills_11 s c.args.out.now q.0 c.at.result c.at.ensures (omega (arith, q.1))

pub put_routes-requires : goal.put_routes-requires
put_routes-requires c =
    let s = c.args.s.now in
    let q = was_right (first_faulty s) (length (route_bytes 0 s)) c.in_ok-size.size c.in_ok-size.ensures in
    (first_from_lem s q.0, omega (arith, q.1))

pub returns : goal.returns
returns c =
    let s = c.args.s.now in
    let q = was_right (first_faulty s) (length (route_bytes 0 s)) c.in_ok-size.size c.in_ok-size.ensures in
    fills_bytes s c.args.out.now q.0 c.put_routes.result c.put_routes.new.out (omega (arith, q.1)) c.put_routes.ensures
