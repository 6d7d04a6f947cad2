-- `item_writer::judge` meets its contract: at each turn what is left of the sheet gives the verdict on the whole. Assumes nothing.
use native.Mathlib.Omega.{arith}
use mathlib.Core.Path.{refl, ap, ◌∙◌}
use Rattle.refusal.specs.declared.Refusal.{Refusal}
use Rattle.refusal.specs.Refused.{number_of}
use Rattle.item_writer.specs.Judge.{faulty_at}
use Rattle.item_writer.proofs.Judging.{begins, ends, cut_off, room, refuses, moves}
use Rattle.refusal.proofs.Rules.{never_0}
use Rattle.item_writer.proofs.judge.Goals as goal

-- ---- The needs
pub loop-tag-init : goal.loop-tag-init
loop-tag-init g c = begins _ c.args.s.now

pub returns-in-End : goal.returns-in-End
returns-in-End g c = ends c.loop-tag.invariant c.in-End.ensures

pub returns-in-Cut : goal.returns-in-Cut
returns-in-Cut g c = ap (λ (r : Refusal). faulty_at (number_of r.rule) r.place) c.at.ensures ∙ cut_off c.loop-tag.invariant c.in-Cut.ensures

pub returns-in-Err : goal.returns-in-Err
returns-in-Err g c =
    ap (λ (r : Refusal). faulty_at (number_of r.rule) r.place) c.at-in-Err.ensures
    ∙ refuses c.loop-tag.invariant c.in-Record.tag c.in-Record.size c.in-Record.ensures (number_of c.in-Err.rule) c.in-Err.ensures (never_0 c.in-Err.rule)

pub overflow_add-total : goal.overflow_add-total
overflow_add-total g c = omega (arith, room c.loop-tag.invariant c.in-Record.tag c.in-Record.size c.in-Record.ensures, c.loop-tag.invariant.few)

pub overflow_add-total-in-Record : goal.overflow_add-total-in-Record
overflow_add-total-in-Record g c = omega (arith, room c.loop-tag.invariant c.in-Record.tag c.in-Record.size c.in-Record.ensures, c.loop-tag.invariant.few)

pub overflow_add-at : goal.overflow_add-at
overflow_add-at g c = omega (arith, room c.loop-tag.invariant c.in-Record.tag c.in-Record.size c.in-Record.ensures)

pub overflow_add-at-in-Record : goal.overflow_add-at-in-Record
overflow_add-at-in-Record g c = omega (arith, room c.loop-tag.invariant c.in-Record.tag c.in-Record.size c.in-Record.ensures)

pub loop-tag-smaller : goal.loop-tag-smaller
loop-tag-smaller g c = omega (arith, room c.loop-tag.invariant c.in-Record.tag c.in-Record.size c.in-Record.ensures)

pub loop-tag-preserved : goal.loop-tag-preserved
loop-tag-preserved g c = moves c.loop-tag.invariant c.in-Record.tag c.in-Record.size c.in-Record.ensures 0 c.in_default.ensures refl
