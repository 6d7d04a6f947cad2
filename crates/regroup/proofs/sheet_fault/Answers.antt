-- `regroup::sheet_fault` meets its contract: the records that are passed leave the verdict as it is. Assumes nothing.
use mathlib.Core.Path.{sym, ◌∙◌}
use native.Mathlib.Omega.{arith}
use Rattle.sheet.specs.declared.Step.TheVariants.{Cut, End}
use Rattle.groups.proofs.Laws.{refused_as}
use Rattle.regroup.specs.Parts.{movable}
use Rattle.regroup.proofs.Laws.{movable_by, moved_stop, past_moved}
use Rattle.regroup.proofs.sheet_fault.Goals as goal

pub returns-in-End : goal.returns-in-End
unfolding movable
returns-in-End c = let s = c.args.s.now in
    let m = past_moved s (λ k. omega (arith, c.type_inv.s k)) c.past_records-at.result c.past_records-at.ensures in
    sym (m.0 ∙ movable_by s c.past_records-at.result End c.in-End.ensures)

pub returns-in-Cut : goal.returns-in-Cut
unfolding movable
returns-in-Cut c = let s = c.args.s.now in
    let m = past_moved s (λ k. omega (arith, c.type_inv.s k)) c.past_records-at.result c.past_records-at.ensures in
    refused_as c.at.ensures ∙ sym (m.0 ∙ movable_by s c.past_records-at.result Cut c.in-Cut.ensures)

pub returns-in-Record : goal.returns-in-Record
returns-in-Record c = let s = c.args.s.now in
    let m = past_moved s (λ k. omega (arith, c.type_inv.s k)) c.past_records-at.result c.past_records-at.ensures in
    refused_as c.at-in-Record.ensures ∙ sym (m.0 ∙ moved_stop s c.past_records-at.result c.in-Record.tag c.in-Record.size c.in-Record.ensures m.1)
