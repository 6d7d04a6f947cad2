-- `lookup::copy` meets its contract. Assumes nothing.
use mathlib.Core.Path.{sym, ◌∙◌}
use Rattle.std.proofs.lemmas.Result.{err_from_is_err_and}
use Rattle.refusal.specs.declared.Rule.TheVariants.{BadCode}
use Rattle.filled.proofs.Answers.{fills_refusal, fills_unfilled}
use Rattle.lookup.proofs.Laws.{wrong_code, right_code, copy_wrong, copy_refused}
use Rattle.lookup.proofs.copy.Goals as goal

pub returns-in_err-check_code : goal.returns-in_err-check_code
returns-in_err-check_code c =
    let p = err_from_is_err_and c.from_residual.result c.from_residual.ensures.1 in
    let e = wrong_code c.args.code _ (sym c.in_err-check_code.was ∙ c.check_code.ensures) in
    rw (p.1, p.2) (fills_unfilled _ _ BadCode 0 _ e.1 (copy_wrong c.args.m.now c.args.code e.0 c.args.out.now))

pub copy_in-requires : goal.copy_in-requires
copy_in-requires c = (right_code c.args.code _ (sym c.in_ok-check_code.was ∙ c.check_code.ensures), rw c.in_ok-w.was at c.find.ensures)

pub returns-in_err-w : goal.returns-in_err-w
returns-in_err-w c =
    let p = err_from_is_err_and c.from_residual-in_err-w.result c.from_residual-in_err-w.ensures.1 in
    rw (p.1, p.2) (fills_refusal _ _ _ (copy_refused c.args.m.now c.args.code (right_code c.args.code _ (sym c.in_ok-check_code.was ∙ c.check_code.ensures)) c.args.out.now _ c.in_err-w.ensures))
