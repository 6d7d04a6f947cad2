-- The reader's `next` leaves fewer bytes where it gives a route. Assumes nothing.
use Rattle.std.proofs.Common.{sym, arith}
use Rattle.routes.specs.Walk.{route_of}
use Rattle.routes.proofs.Places.{step_on}
use Rattle.routes.proofs.RouteReaderIterator.next.Goals as goal

pub returns-clause-goes : goal.returns-clause-goes
returns-clause-goes c =
    let r = c.args.self.now in
    let e = c.in_ok-entry.entry in
    let on = step_on r.list.now r.at (route_of e.route) e.next (sym c.in_ok-entry.ensures) in
    record { on = λ _. (tt, tt, omega (arith, on.0, on.1)); keeps = tt; rests = λ _. tt }
