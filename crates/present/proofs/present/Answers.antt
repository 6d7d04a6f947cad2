-- `present::present` meets its contract. Assumes nothing.
use Rattle.std.proofs.lemmas.Result.{err_from_is_err_and}
use Rattle.present.proofs.Laws.{codes_shown, refusal_shown}
use Rattle.present.proofs.present.Goals as goal

pub returns-in_err-codes : goal.returns-in_err-codes
returns-in_err-codes c =
    let p = err_from_is_err_and c.from_residual.result c.from_residual.ensures.1 in
    rw (p.1, p.2) (refusal_shown c.args.m.now c.in_err-codes.field-0.0 c.codes.new.set c.in_err-codes.ensures)

pub returns : goal.returns
returns c = rw (c.lowest.ensures, c.count.ensures) (codes_shown c.args.m.now c.in_ok-codes.field-0 c.codes.new.set c.in_ok-codes.ensures)
