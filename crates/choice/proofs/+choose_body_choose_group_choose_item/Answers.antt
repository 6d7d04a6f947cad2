-- The cycle of calls {choose_body, choose_item, choose_group}: at each turn what is laid, with what is left of a body, is chosen of all. Assumes nothing.
use mathlib.Core.Path.{◌≡◌, refl, sym, ap, ◌∙◌}
use mathlib.Core.List.{List}
use mathlib.Core.Bool.{true, false}
use Prim.Native.Nat.{ℕ, ◌+◌, ◌-◌, ◌≤◌}
use native.Mathlib.Omega.{arith}
use lib.ListN.{length, get_or, take, drop}
use lib.Seq.{length-take-le}
use Rattle.options.specs.SheetWalk.{Walk, all_read, records_from}
use Rattle.options.specs.Grouped.{none, members, body, fault_of, reached}
use Rattle.sheet.specs.declared.Step.TheVariants as step
use Rattle.sheet.proofs.Steps as steps
use Rattle.std.specs.Prelude.{Ok}
use Rattle.std.proofs.lemmas.Result.{err_from_is_err_and}
use Rattle.refusal.specs.Refused.{number_of}
use Rattle.sheet.proofs.Places.{found, lost}
use Rattle.groups.proofs.Laws.{pass, body_none, body_some, item_room, is_wrong, group_short, members_found, refused_as}
use Rattle.choice.specs.Parts.{Item}
use Rattle.choice.proofs.Laws.{choosing_begins, choosing_on, choosing_copied, choosing_ends, choosing_stops, chose_as, name_there, group_entered, group_passed_by, group_laid, group_bad, bad_tag}
use Rattle.choice.proofs.+choose_body_choose_group_choose_item.Goals as goal

pub choose_body-returns-then-depth-eq0 : goal.choose_body-returns-then-depth-eq0
choose_body-returns-then-depth-eq0 t c = body_none c.args.depth c.args.tag c.args.at (drop c.args.at c.args.s.now) c.if-depth-eq0.true ∙ sym (refused_as c.at.ensures)

pub choose_body-loop-at-init : goal.choose_body-loop-at-init
choose_body-loop-at-init t c = choosing_begins c.args.class.now c.args.s.now (c.args.depth - 1) c.args.at c.args.out.now c.args.o c.requires.0 c.requires.1

pub choose_body-overflow_sub-laid : goal.choose_body-overflow_sub-laid
choose_body-overflow_sub-laid t c =
    let run = pass c.args.s.now (c.args.depth - 1) (λ k. omega (arith, c.type_inv.s k)) c.loop-at.i c.past_records-past.result c.past_records-past.ensures in
    omega (arith, run.1.on, run.1.within c.loop-at.invariant.within, c.loop-at.invariant.short, c.loop-at.invariant.same, c.requires.2)

pub choose_body-overflow_add-laid : goal.choose_body-overflow_add-laid
choose_body-overflow_add-laid t c =
    let run = pass c.args.s.now (c.args.depth - 1) (λ k. omega (arith, c.type_inv.s k)) c.loop-at.i c.past_records-past.result c.past_records-past.ensures in
    omega (arith, run.1.on, run.1.within c.loop-at.invariant.within, c.loop-at.invariant.short, c.loop-at.invariant.same, c.requires.2)

pub choose_body-slice_bounds-copy-end : goal.choose_body-slice_bounds-copy-end
choose_body-slice_bounds-copy-end t c =
    let run = pass c.args.s.now (c.args.depth - 1) (λ k. omega (arith, c.type_inv.s k)) c.loop-at.i c.past_records-past.result c.past_records-past.ensures in
    omega (arith, run.1.on, run.1.within c.loop-at.invariant.within, c.loop-at.invariant.short, c.loop-at.invariant.same, c.requires.2)

pub choose_body-slice_bounds-copy-count-in-loop-at : goal.choose_body-slice_bounds-copy-count-in-loop-at
choose_body-slice_bounds-copy-count-in-loop-at t c =
    let run = pass c.args.s.now (c.args.depth - 1) (λ k. omega (arith, c.type_inv.s k)) c.loop-at.i c.past_records-past.result c.past_records-past.ensures in
    omega (arith, run.1.on, run.1.within c.loop-at.invariant.within, c.loop-at.invariant.short, c.loop-at.invariant.same, c.requires.2)

pub choose_body-slice_bounds-copy-start-in-loop-at : goal.choose_body-slice_bounds-copy-start-in-loop-at
choose_body-slice_bounds-copy-start-in-loop-at t c =
    let run = pass c.args.s.now (c.args.depth - 1) (λ k. omega (arith, c.type_inv.s k)) c.loop-at.i c.past_records-past.result c.past_records-past.ensures in
    omega (arith, run.1.on, run.1.within c.loop-at.invariant.within, c.loop-at.invariant.short, c.loop-at.invariant.same, c.requires.2)

pub choose_body-slice_bounds-copy-end-in-loop-at : goal.choose_body-slice_bounds-copy-end-in-loop-at
choose_body-slice_bounds-copy-end-in-loop-at t c =
    let run = pass c.args.s.now (c.args.depth - 1) (λ k. omega (arith, c.type_inv.s k)) c.loop-at.i c.past_records-past.result c.past_records-past.ensures in
    omega (arith, run.1.on, run.1.within c.loop-at.invariant.within, c.loop-at.invariant.short, c.loop-at.invariant.same, c.requires.2)

pub choose_body-choose_item-requires : goal.choose_body-choose_item-requires
choose_body-choose_item-requires t c =
    let run = pass c.args.s.now (c.args.depth - 1) (λ k. omega (arith, c.type_inv.s k)) c.loop-at.i c.past_records-past.result c.past_records-past.ensures in
    let held = choosing_copied c.loop-at.invariant run c.copy.new.dst c.requires.2 c.copy.ensures in
    (omega arith, (held.short, held.within, omega (arith, held.same, c.requires.2), run.1.stops))

pub choose_group-overflow_add-tag : goal.choose_group-overflow_add-tag
choose_group-overflow_add-tag t c =
    let k = found _ c.in-Some.at c.in-Some.ensures in
    let f = members_found c.args.s.now c.args.tag c.in-Some.at k.0 k.1 in
    omega (arith, f.0, f.1)

pub choose_group-slice_bounds-is_reached-count : goal.choose_group-slice_bounds-is_reached-count
choose_group-slice_bounds-is_reached-count t c =
    let k = found _ c.in-Some.at c.in-Some.ensures in
    let f = members_found c.args.s.now c.args.tag c.in-Some.at k.0 k.1 in
    omega (arith, f.0, f.1)

pub choose_group-slice_bounds-is_reached-start : goal.choose_group-slice_bounds-is_reached-start
choose_group-slice_bounds-is_reached-start t c =
    let k = found _ c.in-Some.at c.in-Some.ensures in
    let f = members_found c.args.s.now c.args.tag c.in-Some.at k.0 k.1 in
    omega (arith, f.0, f.1)

pub choose_group-slice_bounds-is_reached-end : goal.choose_group-slice_bounds-is_reached-end
choose_group-slice_bounds-is_reached-end t c =
    let k = found _ c.in-Some.at c.in-Some.ensures in
    let f = members_found c.args.s.now c.args.tag c.in-Some.at k.0 k.1 in
    omega (arith, f.0, f.1)

pub choose_group-choose_body-requires : goal.choose_group-choose_body-requires
choose_group-choose_body-requires t c =
    let k = found _ c.in-Some.at c.in-Some.ensures in
    let f = members_found c.args.s.now c.args.tag c.in-Some.at k.0 k.1 in
    (omega arith, (omega (arith, f.0, c.requires.0), f.1, omega (arith, c.requires.1)))

pub choose_group-returns-then-is_reached : goal.choose_group-returns-then-is_reached
choose_group-returns-then-is_reached t c =
    let k = found _ c.in-Some.at c.in-Some.ensures in
    let name = name_there c.args.s.now c.args.class.now c.args.tag (body c.args.depth) c.in-Some.at k.0 k.1 in
    let is : reached c.args.class.now (take (get_or c.args.s.now (c.args.tag + 3) 0) (drop (c.args.tag + 4) c.args.s.now)) ≡ true = ap (reached c.args.class.now) (sym name) ∙ sym c.is_reached.ensures ∙ c.if-is_reached.true in
    group_entered c.args.s.now c.args.class.now c.args.tag (body c.args.depth) c.in-Some.at k.0 k.1 is c.args.out.now c.args.o (length c.args.s.now) c.choose_body.result c.choose_body.new.out c.choose_body.ensures

pub choose_item-overflow_add-next-in-Record : goal.choose_item-overflow_add-next-in-Record
choose_item-overflow_add-next-in-Record t c = omega (arith, item_room c.args.s.now c.args.at c.args.depth c.in-Record.tag c.in-Record.size c.in-Record.ensures)

pub choose_item-slice_bounds-choose_group-end : goal.choose_item-slice_bounds-choose_group-end
choose_item-slice_bounds-choose_group-end t c = sym (length-take-le (c.args.at + 3 + c.in-Record.size) c.args.s.now (item_room c.args.s.now c.args.at c.args.depth c.in-Record.tag c.in-Record.size c.in-Record.ensures))

pub choose_item-choose_group-requires : goal.choose_item-choose_group-requires
choose_item-choose_group-requires t c =
    let room : c.args.at + 3 + c.in-Record.size ≤ length c.args.s.now = item_room c.args.s.now c.args.at c.args.depth c.in-Record.tag c.in-Record.size c.in-Record.ensures in
    (omega arith, (omega (arith, c.requires.0), omega (arith, length-take-le (c.args.at + 3 + c.in-Record.size) c.args.s.now room, c.requires.2)))

pub choose_body-returns-in_err-choose_item : goal.choose_body-returns-in_err-choose_item
choose_body-returns-in_err-choose_item t c =
    let run = pass c.args.s.now (c.args.depth - 1) (λ k. omega (arith, c.type_inv.s k)) c.loop-at.i c.past_records-past.result c.past_records-past.ensures in
    let held = choosing_copied c.loop-at.invariant run c.copy.new.dst c.requires.2 c.copy.ensures in
    let r = c.in_err-choose_item.field-0.0 in
    let q = err_from_is_err_and c.from_residual.result c.from_residual.ensures.1 in
    rw (q.1, q.2) (ap fault_of (body_some c.args.depth c.args.tag c.args.at c.args.s.now c.if-depth-eq0.false) ∙ choosing_stops held (number_of r.rule) r.place c.in_err-choose_item.ensures)

pub choose_body-returns-in-None : goal.choose_body-returns-in-None
choose_body-returns-in-None t c =
    let run = pass c.args.s.now (c.args.depth - 1) (λ k. omega (arith, c.type_inv.s k)) c.loop-at.i c.past_records-past.result c.past_records-past.ensures in
    let held = choosing_copied c.loop-at.invariant run c.copy.new.dst c.requires.2 c.copy.ensures in
    let e : ℕ = c.loop-at.e + (c.past_records-past.result - c.loop-at.i) in
    let k : (records_from c.past_records-past.result 0 (drop c.past_records-past.result c.args.s.now) ≡ all_read) × (c.choose_item.new.out ≡ _) = rw c.in-None.is at c.in_ok-choose_item.ensures in
    chose_as c.args.class.now c.args.out.now c.args.o (length c.args.s.now) (Ok e) c.choose_item.new.out (body_some c.args.depth c.args.tag c.args.at c.args.s.now c.if-depth-eq0.false)
    (rw k.1 (choosing_ends held k.0))

pub choose_body-loop-at-smaller : goal.choose_body-loop-at-smaller
choose_body-loop-at-smaller t c =
    let run = pass c.args.s.now (c.args.depth - 1) (λ k. omega (arith, c.type_inv.s k)) c.loop-at.i c.past_records-past.result c.past_records-past.ensures in
    let k : Item (c.args.depth - 1) c.args.class.now c.args.s.now c.past_records-past.result _ _ c.in-Some.field-0.at c.in-Some.field-0.end c.choose_item.new.out = rw c.in-Some.is at c.in_ok-choose_item.ensures in
    omega (arith, k.on, k.within, run.1.on)

pub choose_body-loop-at-preserved : goal.choose_body-loop-at-preserved
choose_body-loop-at-preserved t c =
    let run = pass c.args.s.now (c.args.depth - 1) (λ k. omega (arith, c.type_inv.s k)) c.loop-at.i c.past_records-past.result c.past_records-past.ensures in
    let held = choosing_copied c.loop-at.invariant run c.copy.new.dst c.requires.2 c.copy.ensures in
    let k : Item (c.args.depth - 1) c.args.class.now c.args.s.now c.past_records-past.result _ _ c.in-Some.field-0.at c.in-Some.field-0.end c.choose_item.new.out = rw c.in-Some.is at c.in_ok-choose_item.ensures in
    choosing_on held c.choose_item.auto.out k

pub choose_group-returns-in_default : goal.choose_group-returns-in_default
unfolding fault_of
choose_group-returns-in_default t c =
    ap fault_of (group_short c.args.s.now c.args.tag (body c.args.depth) none _ refl (lost _ c.in_default.ensures)) ∙ sym (refused_as c.at.ensures)

pub choose_group-returns-in_err-check_group : goal.choose_group-returns-in_err-check_group
choose_group-returns-in_err-check_group t c =
    let q = err_from_is_err_and c.from_residual.result c.from_residual.ensures.1 in
    rw (q.1, q.2) (sym c.in_err-check_group.ensures)

pub choose_group-returns : goal.choose_group-returns
choose_group-returns t c =
    let k = found _ c.in-Some.at c.in-Some.ensures in
    let name = name_there c.args.s.now c.args.class.now c.args.tag (body c.args.depth) c.in-Some.at k.0 k.1 in
    let is : reached c.args.class.now (take (get_or c.args.s.now (c.args.tag + 3) 0) (drop (c.args.tag + 4) c.args.s.now)) ≡ false = ap (reached c.args.class.now) (sym name) ∙ sym c.is_reached.ensures ∙ c.if-is_reached.false in
    let f = members_found c.args.s.now c.args.tag c.in-Some.at k.0 k.1 in
    group_passed_by c.args.s.now c.args.class.now c.args.tag (body c.args.depth) c.in-Some.at k.0 k.1 is c.args.out.now c.args.o (length c.args.s.now) (sym c.in_ok-check_group.ensures)
    (omega (arith, f.0, f.1, c.requires.0))

pub choose_item-returns-in-Cut : goal.choose_item-returns-in-Cut
unfolding members fault_of
choose_item-returns-in-Cut t c =
    ap (λ (w : Walk). fault_of (members (body c.args.depth) w)) (steps.stepped c.args.s.now c.args.at step.Cut c.in-Cut.ensures).0 ∙ sym (refused_as c.at.ensures)

pub choose_item-returns-then-tag-ne0 : goal.choose_item-returns-then-tag-ne0
choose_item-returns-then-tag-ne0 t c =
    bad_tag c.args.s.now c.args.at c.args.depth c.in-Record.tag c.in-Record.size c.in-Record.ensures (is_wrong c.args.s.now c.args.at c.args.depth c.in-Record.tag c.in-Record.size c.in-Record.ensures c.requires.3 c.if-tag-ne0.true)
    ∙ sym (refused_as c.at-then-tag-ne0.ensures)

pub choose_item-returns-in_ok-end-in-Record : goal.choose_item-returns-in_ok-end-in-Record
choose_item-returns-in_ok-end-in-Record t c =
    let room : c.args.at + 3 + c.in-Record.size ≤ length c.args.s.now = item_room c.args.s.now c.args.at c.args.depth c.in-Record.tag c.in-Record.size c.in-Record.ensures in
    let part : List ℕ = take (c.args.at + 3 + c.in-Record.size) c.args.s.now in
    group_laid c.args.s.now c.args.at c.args.depth c.in-Record.tag c.in-Record.size c.in-Record.ensures c.if-tag-ne0.false c.args.class.now c.args.out.now c.args.o (length part) c.choose_group.new.out (length-take-le (c.args.at + 3 + c.in-Record.size) c.args.s.now room) c.in_ok-end-in-Record.end c.in_ok-end-in-Record.ensures

pub choose_item-returns-in_err-end-in-Record : goal.choose_item-returns-in_err-end-in-Record
choose_item-returns-in_err-end-in-Record t c =
    let room : c.args.at + 3 + c.in-Record.size ≤ length c.args.s.now = item_room c.args.s.now c.args.at c.args.depth c.in-Record.tag c.in-Record.size c.in-Record.ensures in
    let part : List ℕ = take (c.args.at + 3 + c.in-Record.size) c.args.s.now in
    let q = err_from_is_err_and c.from_residual.result c.from_residual.ensures.1 in
    rw (q.1, q.2) (group_bad c.args.s.now c.args.at c.args.depth c.in-Record.tag c.in-Record.size c.in-Record.ensures c.if-tag-ne0.false c.args.class.now c.args.out.now c.args.o (length part) c.choose_group.new.out (length-take-le (c.args.at + 3 + c.in-Record.size) c.args.s.now room) c.in_err-end-in-Record.field-0.0 c.in_err-end-in-Record.ensures)
