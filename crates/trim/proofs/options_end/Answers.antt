-- `trim::options_end` meets its contract. Assumes nothing.
use mathlib.Core.Path.{sym, ap}
use native.Mathlib.Omega.{arith}
use lib.ListN.{length}
use Rattle.std.proofs.lemmas.Result.{err_from_is_err_and}
use Rattle.options.specs.Message.{options}
use Rattle.theorems.proofs.Lengths.{field_le}
use Rattle.message.proofs.Readings.{fit_length}
use Rattle.trim.proofs.Whole.{end_unfit, end_first, at_short, end_file, end_sname, end_found}
use Rattle.trim.proofs.options_end.Goals as goal

pub returns-in_err-fit : goal.returns-in_err-fit
returns-in_err-fit c = let p = err_from_is_err_and c.from_residual.result c.from_residual.ensures.1 in
    rw (p.1, p.2) (end_unfit c.args.m.now c.in_err-fit.field-0.0 c.in_err-fit.ensures.number c.in_err-fit.ensures.place)

pub walk-requires : goal.walk-requires
walk-requires c =
    omega (arith, ap length c.field_bytes.ensures, field_le options c.args.m.now, (fit_length c.args.m.now (sym c.in_ok-fit.ensures.number)).1)

pub returns-in_err-end : goal.returns-in_err-end
returns-in_err-end c = let p = err_from_is_err_and c.from_residual-in_err-end.result c.from_residual-in_err-end.ensures.1 in
    rw (p.1, p.2) (end_first c.args.m.now (sym c.in_ok-fit.ensures.number) c.in_err-end.field-0.0 (rw c.field_bytes.ensures at c.in_err-end.ensures))

pub returns-in_err-walk_if : goal.returns-in_err-walk_if
returns-in_err-walk_if c = let p = err_from_is_err_and c.from_residual-in_err-walk_if.result c.from_residual-in_err-walk_if.ensures.1 in
    rw (p.1, p.2)
    (end_file c.args.m.now (sym c.in_ok-fit.ensures.number) c.in_ok-end.end (rw c.field_bytes.ensures at c.in_ok-end.ensures) (Unit {0}) c.in_err-walk_if.field-0.0 c.in_err-walk_if.ensures)

pub returns-in_err-walk_if-2 : goal.returns-in_err-walk_if-2
returns-in_err-walk_if-2 c = let q = err_from_is_err_and c.from_residual-in_err-walk_if-2.result c.from_residual-in_err-walk_if-2.ensures.1 in
    rw (q.1, q.2)
    (end_sname c.args.m.now (sym c.in_ok-fit.ensures.number) c.in_ok-end.end (rw c.field_bytes.ensures at c.in_ok-end.ensures) (tt {0}) c.in_ok-walk_if.ensures c.in_err-walk_if-2.field-0.0 c.in_err-walk_if-2.ensures)

pub overflow_add-result : goal.overflow_add-result
overflow_add-result c = let f = sym c.in_ok-fit.ensures.number in
    record { fits = omega (arith, at_short c.args.m.now f c.in_ok-end.end (rw c.field_bytes.ensures at c.in_ok-end.ensures), (fit_length c.args.m.now f).1) }

pub returns : goal.returns
returns c =
    end_found c.args.m.now (sym c.in_ok-fit.ensures.number) c.in_ok-end.end (rw c.field_bytes.ensures at c.in_ok-end.ensures) (tt {0}) c.in_ok-walk_if.ensures (tt {0}) c.in_ok-walk_if-2.ensures
