-- The reader's `next` gives the first of the addresses that are left. Assumes nothing.
use Rattle.std.proofs.Common.{◌≡◌, [], sym, ap, length, arith}
use Rattle.address.specs.Walk.{left}
use Rattle.address.proofs.Laws.{left_next, left_done}
use Rattle.address.proofs.AddressReaderIterator.next.Goals as goal

pub returns-in_err-entry-clause-steps : goal.returns-in_err-entry-clause-steps
returns-in_err-entry-clause-steps c =
    let r = c.args.self.now in
    let none : left r ≡ [] = left_done r.list.now r.at (sym c.in_err-entry.ensures) in
    rw c.from_residual.ensures (none, none)

pub returns-clause-steps : goal.returns-clause-steps
returns-clause-steps c =
    let r = c.args.self.now in
    left_next r.list.now r.at c.in_ok-entry.entry.address c.in_ok-entry.entry.next (sym c.in_ok-entry.ensures)

pub returns-clause-goes : goal.returns-clause-goes
returns-clause-goes c =
    let r = c.args.self.now in
    let fewer = ap length (left_next r.list.now r.at c.in_ok-entry.entry.address c.in_ok-entry.entry.next (sym c.in_ok-entry.ensures)) in
    record { on = λ _. (tt, tt, omega (arith, fewer)); keeps = tt; rests = λ _. tt }
