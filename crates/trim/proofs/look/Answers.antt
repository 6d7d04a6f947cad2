-- `trim::look` meets its contract. Assumes nothing.
use mathlib.Core.Path.{refl}
use native.Mathlib.Omega.{arith}
use native.Mathlib.Nat.{add-sub_cancel_left}
use Rattle.message.specs.Fields.{field_of}
use Rattle.index.proofs.Steps.{not_stopped}
use Rattle.index.proofs.Built.{rule_not}
use Rattle.trim.proofs.Steps.{look_pad, look_end, look_last, look_long, look_stop, look_option}
use Rattle.trim.proofs.look.Goals as goal

pub returns-then-c-eq0 : goal.returns-then-c-eq0
returns-then-c-eq0 c = look_pad (field_of c.args.field) c.args.f.now c.args.i c.args.over c.requires.0 c.if-c-eq0.true

pub returns-then-c : goal.returns-then-c
returns-then-c c = look_end (field_of c.args.field) c.args.f.now c.args.i c.args.over c.requires.0 c.if-c.true

pub returns-then-f-j : goal.returns-then-f-j
returns-then-f-j c =
    look_last (field_of c.args.field) c.args.f.now c.args.i c.args.over c.requires.0 c.if-c-eq0.false c.if-c.false (omega (arith, c.if-f-j.true))
    c.at.result (rw c.at.ensures refl) (rw (c.at.ensures, c.base.ensures.0) refl)

pub returns-then-f-e : goal.returns-then-f-e
returns-then-f-e c =
    look_long (field_of c.args.field) c.args.f.now c.args.i c.args.over c.requires.0 c.if-c-eq0.false c.if-c.false (omega (arith, c.if-f-j.false)) c.wide.result c.wide.ensures.0 (omega (arith, c.if-f-e.true))
    c.at-then-f-e.result (rw c.at-then-f-e.ensures refl) (rw (c.at-then-f-e.ensures, c.base.ensures.0) refl)

pub returns-in-Err : goal.returns-in-Err
returns-in-Err c =
    look_stop (field_of c.args.field) c.args.f.now c.args.i c.args.over c.requires.0 c.if-c-eq0.false c.if-c.false (omega (arith, c.if-f-j.false)) c.wide.result c.wide.ensures.0 (omega (arith, c.if-f-e.false))
    _ (rw (add-sub_cancel_left, c.is_options.ensures) at c.in-Err.ensures) (rule_not c.in-Err.rule)
    c.at-in-Err.result (rw c.at-in-Err.ensures refl) (rw (c.at-in-Err.ensures, c.base.ensures.0) refl)

pub returns : goal.returns
returns c =
    let o = not_stopped _ (rw (add-sub_cancel_left, c.is_options.ensures) at c.in_default.ensures) in
    rw (rw add-sub_cancel_left at c.over_after-over.ensures)
    (look_option (field_of c.args.field) c.args.f.now c.args.i c.args.over c.requires.0 c.if-c-eq0.false c.if-c.false (omega (arith, c.if-f-j.false)) c.wide.result c.wide.ensures.0 (omega (arith, c.if-f-e.false)) o)
