-- The cycle of calls {check_body, check_item, check_group}: at each turn the items left of a body have the fault of all. Assumes nothing.
use mathlib.Core.Path.{refl, sym, ap, ◌∙◌}
use Prim.Native.Nat.{ℕ, ◌+◌, ◌-◌}
use native.Mathlib.Omega.{arith}
use lib.ListN.{drop}
use lib.Seq.{length-take-le}
use Rattle.options.specs.Answers.{passed, refused_with}
use Rattle.options.specs.Grouped.{none, body, fault_of}
use Rattle.std.specs.Prelude.{Option, Ok}
use Rattle.std.proofs.lemmas.Result.{err_from_is_err_and}
use Rattle.refusal.specs.declared.Refusal.{Refusal}
use Rattle.refusal.specs.Refused.{number_of}
use Rattle.groups.specs.Parts.{item_told, End, Next, Bad}
use Rattle.sheet.proofs.Places.{found, lost}
use Rattle.groups.proofs.Laws.{refused_as, stepped, pass, body_none, body_some, group_short, group_fault, item_ended, item_cut, item_room, item_group, item_10}
use Rattle.groups.proofs.+check_body_check_group_check_item.Goals as goal

pub check_body-returns-then-depth-eq0 : goal.check_body-returns-then-depth-eq0
check_body-returns-then-depth-eq0 t c = refused_as c.at.ensures ∙ sym (body_none c.args.depth c.args.tag c.args.at (drop c.args.at c.args.s.now) c.if-depth-eq0.true)

pub check_body-loop-next-init : goal.check_body-loop-next-init
check_body-loop-next-init t c = refl

pub check_body-check_item-requires : goal.check_body-check_item-requires
check_body-check_item-requires t c =
    let p = (pass c.args.s.now (c.args.depth - 1) (λ k. omega (arith, c.type_inv.s k)) c.loop-next.i c.past_records.result c.past_records.ensures).1 in
    (omega arith, p.stops)

pub check_body-returns-in_err-next : goal.check_body-returns-in_err-next
check_body-returns-in_err-next t c =
    let p = (pass c.args.s.now (c.args.depth - 1) (λ k. omega (arith, c.type_inv.s k)) c.loop-next.i c.past_records.result c.past_records.ensures).1 in
    let r = c.in_err-next.field-0.0 in
    let k = stepped c.args.s.now (c.args.depth - 1) c.past_records.result (Bad (number_of r.rule) r.place) c.in_err-next.ensures in
    let q = err_from_is_err_and c.from_residual.result c.from_residual.ensures.1 in
    rw (q.1, q.2) (sym (ap fault_of (body_some c.args.depth c.args.tag c.args.at c.args.s.now c.if-depth-eq0.false) ∙ sym c.loop-next.invariant ∙ p.same_fault ∙ k))

pub check_body-loop-next-smaller : goal.check_body-loop-next-smaller
check_body-loop-next-smaller t c =
    let p = (pass c.args.s.now (c.args.depth - 1) (λ k. omega (arith, c.type_inv.s k)) c.loop-next.i c.past_records.result c.past_records.ensures).1 in
    let k = stepped c.args.s.now (c.args.depth - 1) c.past_records.result (Next c.in-Some.next) (ap (λ (o : Option ℕ). item_told (Ok o)) (sym c.in-Some.is) ∙ c.in_ok-next.ensures) in
    omega (arith, k.0, k.1, p.on)

pub check_body-loop-next-preserved : goal.check_body-loop-next-preserved
check_body-loop-next-preserved t c =
    let p = (pass c.args.s.now (c.args.depth - 1) (λ k. omega (arith, c.type_inv.s k)) c.loop-next.i c.past_records.result c.past_records.ensures).1 in
    let k = stepped c.args.s.now (c.args.depth - 1) c.past_records.result (Next c.in-Some.next) (ap (λ (o : Option ℕ). item_told (Ok o)) (sym c.in-Some.is) ∙ c.in_ok-next.ensures) in
    sym k.2 ∙ sym p.same_fault ∙ c.loop-next.invariant

pub check_body-returns : goal.check_body-returns
check_body-returns t c =
    let p = (pass c.args.s.now (c.args.depth - 1) (λ k. omega (arith, c.type_inv.s k)) c.loop-next.i c.past_records.result c.past_records.ensures).1 in
    let k = stepped c.args.s.now (c.args.depth - 1) c.past_records.result End (ap (λ (o : Option ℕ). item_told (Ok o)) (sym c.in_default.is) ∙ c.in_ok-next.ensures) in
    sym (ap fault_of (body_some c.args.depth c.args.tag c.args.at c.args.s.now c.if-depth-eq0.false) ∙ sym c.loop-next.invariant ∙ p.same_fault ∙ k)

pub check_group-returns-in-None : goal.check_group-returns-in-None
unfolding fault_of
check_group-returns-in-None t c =
    refused_as c.at.ensures ∙ sym (ap fault_of (group_short c.args.s.now c.args.tag (body c.args.depth) none _ refl (lost _ c.in-None.ensures)))

pub check_group-returns-in-Some : goal.check_group-returns-in-Some
check_group-returns-in-Some t c =
    let k = found _ c.in-Some.at c.in-Some.ensures in
    c.check_body.ensures ∙ sym (group_fault c.args.s.now c.args.tag (body c.args.depth) c.in-Some.at k.0 k.1)

pub check_item-returns-in-End : goal.check_item-returns-in-End
check_item-returns-in-End t c = item_ended c.args.s.now c.args.at c.args.depth c.in-End.ensures

pub check_item-returns-in-Cut : goal.check_item-returns-in-Cut
check_item-returns-in-Cut t c =
    ap (λ (r : Refusal). Bad (number_of r.rule) r.place) c.at.ensures ∙ item_cut c.args.s.now c.args.at c.args.depth c.in-Cut.ensures

pub check_item-returns-then-tag-ne0 : goal.check_item-returns-then-tag-ne0
check_item-returns-then-tag-ne0 t c =
    ap (λ (r : Refusal). Bad (number_of r.rule) r.place) c.at-then-tag-ne0.ensures
    ∙ item_10 c.args.s.now c.args.at c.args.depth c.in-Record.tag c.in-Record.size c.in-Record.ensures c.requires c.if-tag-ne0.true

pub check_item-overflow_add-next : goal.check_item-overflow_add-next
check_item-overflow_add-next t c = omega (arith, item_room c.args.s.now c.args.at c.args.depth c.in-Record.tag c.in-Record.size c.in-Record.ensures)

pub check_item-overflow_add-next-in-Record : goal.check_item-overflow_add-next-in-Record
check_item-overflow_add-next-in-Record t c = omega (arith, item_room c.args.s.now c.args.at c.args.depth c.in-Record.tag c.in-Record.size c.in-Record.ensures)

pub check_item-slice_bounds-check_group-end : goal.check_item-slice_bounds-check_group-end
check_item-slice_bounds-check_group-end t c =
    sym (length-take-le (c.args.at + 3 + c.in-Record.size) c.args.s.now (item_room c.args.s.now c.args.at c.args.depth c.in-Record.tag c.in-Record.size c.in-Record.ensures))

pub check_item-returns-in_err-check_group-in-Record : goal.check_item-returns-in_err-check_group-in-Record
check_item-returns-in_err-check_group-in-Record t c =
    let k = c.in_err-check_group-in-Record in
    let q = err_from_is_err_and c.from_residual.result c.from_residual.ensures.1 in
    rw (q.1, q.2) (item_group c.args.s.now c.args.at c.args.depth c.in-Record.tag c.in-Record.size c.in-Record.ensures c.if-tag-ne0.false (refused_with (number_of k.field-0.0.rule) k.field-0.0.place) k.ensures)

pub check_item-returns-in_ok-check_group-in-Record : goal.check_item-returns-in_ok-check_group-in-Record
check_item-returns-in_ok-check_group-in-Record t c =
    item_group c.args.s.now c.args.at c.args.depth c.in-Record.tag c.in-Record.size c.in-Record.ensures c.if-tag-ne0.false passed c.in_ok-check_group-in-Record.ensures
