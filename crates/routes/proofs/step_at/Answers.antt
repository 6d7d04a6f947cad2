-- `routes::step_at` meets its contract: each answer is the definition's step. Assumes nothing.
use Rattle.std.proofs.Common.{◌≡◌, ◌<◌, length, drop, sym}
use Rattle.refusal.specs.Refused.{fault_number}
use Rattle.route_data.specs.Route.{fault_here}
use Rattle.route_data.proofs.Places.{a_fault}
use Rattle.routes.proofs.Places.{step_faulty, step_within, step_right}
use Rattle.routes.proofs.step_at.Goals as goal

pub returns-in-Some : goal.returns-in-Some
returns-in-Some c = sym (step_faulty c.args.list.now c.args.at (fault_number c.in-Some.field-0) c.in-Some.ensures (a_fault c.in-Some.field-0))

pub returns : goal.returns
returns c =
    let d = c.args.list.now in
    let z : fault_here (drop c.args.at d) ≡ 0 = sym c.in_default.ensures in
    let h : c.args.at < length d = step_within d c.args.at z in
    rw (step_right d c.args.at h z c.width_bytes.result c.width_bytes.ensures (λ i. (c.type_inv.list i).fits), c.cleared-destination.ensures, c.first32.ensures, c.first32-router.ensures)
