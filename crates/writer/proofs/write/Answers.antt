-- `writer::write` meets its contract: a refusal leaves the buffer, and a plan that was chosen is written. Assumes nothing.
use mathlib.Core.Path.{refl, ap}
use Rattle.refusal.specs.Refused.{number_of}
use Rattle.std.proofs.lemmas.Result.{err_from_is_err_and}
use Rattle.options.specs.Writing.{writer}
use Rattle.plan.specs.Answer.{Plan}
use Rattle.writer.proofs.Used.{keeps, Used, used}
use Rattle.writer.proofs.write.Goals as goal

pub returns-in_err-choice : goal.returns-in_err-choice
returns-in_err-choice c = let r = c.in_err-choice.field-0.0 in
    let q = err_from_is_err_and c.from_residual.result c.from_residual.ensures.1 in
    rw (q.1, q.2) (keeps c.args.s.now (writer _ c.args.s.now c.args.m.now c.args.permission) c.args.m.now _ (number_of r.rule) r.place (c.in_err-choice.ensures c.args.m.now refl) refl)

pub write_plan-requires : goal.write_plan-requires
write_plan-requires c = let k = c.in_ok-choice.choice in
    let u : Used c.args.s.now c.args.m.now c.args.permission k.plan k.single = used c.args.s.now c.args.m.now c.args.permission _ _ _ (c.in_ok-choice.ensures c.args.m.now refl) refl in
    (u.long, u.room, u.spot)

pub returns : goal.returns
returns c = let k = c.in_ok-choice.choice in
    let u : Used c.args.s.now c.args.m.now c.args.permission k.plan k.single = used c.args.s.now c.args.m.now c.args.permission _ _ _ (c.in_ok-choice.ensures c.args.m.now refl) refl in
    rw u.is (record { answer = ap (Plan k.plan) u.answer; buffer = c.write_plan.ensures })
