-- `route_writer::put_route` meets its contract. Assumes nothing.
use native.Mathlib.Omega.{arith}
use Rattle.route_writer.proofs.Laying.{second_length, third_length, route_placed}
use Rattle.route_writer.proofs.put_route.Goals as goal

pub slice_bounds-copy-end-3 : goal.slice_bounds-copy-end-3
slice_bounds-copy-end-3 c = omega (arith, c.width_bytes-n.ensures, c.requires.2, second_length c.args.out.now c.args.s.now c.args.o c.width_bytes-n.result c.requires.0 c.width_bytes-n.ensures c.requires.1 (omega (arith, c.width_bytes-n.ensures, c.requires.2)) c.copy.new.dst c.copy.ensures)

pub shape_of-out : goal.shape_of-out
shape_of-out c = third_length c.args.out.now c.args.s.now c.args.o c.width_bytes-n.result c.requires.0 c.width_bytes-n.ensures c.requires.1 (omega (arith, c.width_bytes-n.ensures, c.requires.2)) c.copy.new.dst c.copy.ensures c.copy-2.new.dst c.copy-2.ensures

pub returns : goal.returns
returns c = route_placed c.args.out.now c.args.s.now c.args.o c.width_bytes-n.result c.requires.0 c.width_bytes-n.ensures c.requires.1 (omega (arith, c.width_bytes-n.ensures, c.requires.2)) c.copy.new.dst c.copy.ensures c.copy-2.new.dst c.copy-2.ensures
