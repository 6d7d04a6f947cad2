-- `lookup::lookup` meets its contract. Assumes nothing.
use mathlib.Core.Path.{sym, ◌∙◌}
use Rattle.std.proofs.lemmas.Result.{err_from_is_err_and}
use Rattle.options.specs.CodeSet.{marked}
use Rattle.lookup.proofs.Laws.{wrong_code, right_code, lookup_wrong, lookup_refused}
use Rattle.lookup.proofs.lookup.Goals as goal

pub returns-in_err-check_code : goal.returns-in_err-check_code
returns-in_err-check_code c =
    let p = err_from_is_err_and c.from_residual.result c.from_residual.ensures.1 in
    let e = wrong_code c.args.code _ (sym c.in_err-check_code.was ∙ c.check_code.ensures) in
    rw (p.1, p.2, e.1) (lookup_wrong c.args.m.now c.args.code e.0 (marked c.args.known))

pub found_in-requires : goal.found_in-requires
found_in-requires c = (right_code c.args.code _ (sym c.in_ok-check_code.was ∙ c.check_code.ensures), rw c.in_ok-w.was at c.find.ensures)

pub returns-in_err-w : goal.returns-in_err-w
returns-in_err-w c =
    let p = err_from_is_err_and c.from_residual-in_err-w.result c.from_residual-in_err-w.ensures.1 in
    rw (p.1, p.2) (lookup_refused c.args.m.now c.args.code (right_code c.args.code _ (sym c.in_ok-check_code.was ∙ c.check_code.ensures)) (marked c.args.known) _ c.in_err-w.ensures)
