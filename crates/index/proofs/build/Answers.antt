-- `index::build` meets its contract. Assumes nothing.
use mathlib.Core.Path.{sym}
use Rattle.std.proofs.lemmas.Result.{err_from_is_err_and}
use Rattle.refusal.specs.declared.Rule.TheVariants.{BadIndexCount}
use Rattle.filled.proofs.Answers.{fills_unfilled}
use Rattle.index.proofs.Built.{build_unfit, build_count, build_refused, build_done}
use Rattle.index.proofs.build.Goals as goal

pub returns-in_err-fit : goal.returns-in_err-fit
returns-in_err-fit c = let p = err_from_is_err_and c.from_residual.result c.from_residual.ensures.1 in
    rw (p.1, p.2) (build_unfit c.args.m.now c.args.index.now c.in_err-fit.field-0.0 c.in_err-fit.ensures.number c.in_err-fit.ensures.place)

pub returns-then-count-ne256 : goal.returns-then-count-ne256
returns-then-count-ne256 c = fills_unfilled _ c.at.result BadIndexCount _ c.args.index.now c.at.ensures (build_count c.args.m.now c.args.index.now (sym c.in_ok-fit.ensures.number) c.if-count-ne256.true)

pub returns-in_err-enter : goal.returns-in_err-enter
returns-in_err-enter c = let p = err_from_is_err_and c.from_residual-in_err-enter.result c.from_residual-in_err-enter.ensures.1 in
    rw (p.1, p.2) (build_refused c.args.m.now c.args.index.now (sym c.in_ok-fit.ensures.number) c.if-count-ne256.false (Unit {0}) c.in_err-enter.field-0.0 c.enter.new.index c.in_err-enter.ensures)

pub returns : goal.returns
returns c = build_done c.args.m.now c.args.index.now (sym c.in_ok-fit.ensures.number) c.if-count-ne256.false (tt {0}) c.enter.new.index c.in_ok-enter.ensures _ c.copy_from_slice.ensures.after
