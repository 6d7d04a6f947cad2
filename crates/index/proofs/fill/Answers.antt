-- `index::fill` meets its contract. Assumes nothing.
use mathlib.Core.Path.{ap}
use native.Mathlib.Omega.{arith}
use lib.ListN.{length}
use Rattle.std.proofs.lemmas.Result.{err_from_is_err_and}
use Rattle.options.specs.Message.{options}
use Rattle.theorems.proofs.Lengths.{field_le}
use Rattle.index.proofs.Steps.{fill_first, fill_file, fill_all}
use Rattle.index.proofs.fill.Goals as goal

pub walk-requires : goal.walk-requires
walk-requires c = (omega (arith, c.requires.0, ap length c.field_bytes.ensures, field_le options c.args.m.now), c.requires.1)

pub returns-in_err-over : goal.returns-in_err-over
returns-in_err-over c = let p = err_from_is_err_and c.from_residual.result c.from_residual.ensures.1 in
    rw (p.1, p.2) (fill_first c.args.m.now c.args.index.now (Unit {0}) c.in_err-over.field-0.0 c.walk.new.index (rw c.field_bytes.ensures at c.in_err-over.ensures.notes) c.walk.new.index)

pub returns-in_err-walk_if : goal.returns-in_err-walk_if
returns-in_err-walk_if c = let p = err_from_is_err_and c.from_residual-in_err-walk_if.result c.from_residual-in_err-walk_if.ensures.1 in
    rw (p.1, p.2)
    (fill_file c.args.m.now c.args.index.now c.in_ok-over.over c.walk.new.index (rw c.field_bytes.ensures at c.in_ok-over.ensures.notes) (Unit {0}) c.in_err-walk_if.field-0.0 c.walk_if.new.index c.in_err-walk_if.ensures.1 c.walk_if.new.index)

pub returns : goal.returns
returns c =
    fill_all c.args.m.now c.args.index.now c.in_ok-over.over c.walk.new.index (rw c.field_bytes.ensures at c.in_ok-over.ensures.notes) (tt {0}) c.walk_if.new.index c.in_ok-walk_if.ensures.1
    c.walk_if-2.result c.walk_if-2.new.index c.walk_if-2.ensures.1
