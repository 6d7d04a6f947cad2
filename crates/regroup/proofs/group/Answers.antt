-- `regroup::group` meets its contract. Assumes nothing.
use mathlib.Core.Path.{sym}
use Rattle.refusal.specs.Refused.{number_of}
use Rattle.std.proofs.lemmas.Result.{err_from_is_err_and}
use Rattle.filled.proofs.Answers.{fills_refusal, fills_unfilled}
use Rattle.regroup.proofs.Laws.{move_long, move_refused, move_passed}
use Rattle.regroup.proofs.group.Goals as goal

pub returns-then-s-gt4096 : goal.returns-then-s-gt4096
returns-then-s-gt4096 c = fills_unfilled _ c.at.result _ _ _ c.at.ensures (move_long c.args.s.now c.args.out.now c.if-s-gt4096.true)

pub returns-in_err-sheet_fault : goal.returns-in_err-sheet_fault
returns-in_err-sheet_fault c = let r = c.in_err-sheet_fault.field-0.0 in
    let q = err_from_is_err_and c.from_residual.result c.from_residual.ensures.1 in
    rw (q.1, q.2) (fills_refusal _ r c.args.out.now (move_refused c.args.s.now c.args.out.now c.if-s-gt4096.false (number_of r.rule) r.place (sym c.in_err-sheet_fault.ensures)))

pub returns : goal.returns
returns c = rw (move_passed c.args.s.now c.args.out.now c.if-s-gt4096.false (sym c.in_ok-sheet_fault.ensures)) c.put_group.ensures
