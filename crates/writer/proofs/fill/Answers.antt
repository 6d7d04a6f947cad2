-- `writer::fill` meets its contract. Assumes nothing.
use mathlib.Core.Path.{◌≡◌, refl}
use mathlib.Core.List.{List}
use Prim.Native.Nat.{ℕ, ◌+◌, ◌-◌, ◌^◌, ◌<◌, ◌≤◌}
use native.Mathlib.Omega.{arith}
use lib.ListN.{length}
use Rattle.options.specs.Writing.{fits, pieces_left}
use Rattle.plan.proofs.Counting.{no_room}
use Rattle.writer.proofs.Filling.{part_is}
use Rattle.writer.proofs.Quick.{quick_none, quick_turn, quick_more, quick_closed, quick_handed}
use borrow.Author.Rules.{rules}
use Rattle.writer.proofs.fill.Goals as goal

pub loop-at-init : goal.loop-at-init
loop-at-init c = quick_none c.args.s.now c.args.single c.args.spot c.args.field.now c.requires

pub overflow_add-at : goal.overflow_add-at
overflow_add-at c = omega (arith, (quick_turn _ (c.args.s.now) c.args.single c.args.spot c.loop-at.field c.loop-at.at c.loop-at.end c.loop-at.invariant c.loop-at-test.true _ refl).within, c.loop-at.invariant.spot_is.few)

pub bounds-s-at : goal.bounds-s-at
bounds-s-at c = omega (arith, (quick_turn _ (c.args.s.now) c.args.single c.args.spot c.loop-at.field c.loop-at.at c.loop-at.end c.loop-at.invariant c.loop-at-test.true _ refl).within)

pub overflow_add-size : goal.overflow_add-size
overflow_add-size c = omega (arith, (quick_turn _ (c.args.s.now) c.args.single c.args.spot c.loop-at.field c.loop-at.at c.loop-at.end c.loop-at.invariant c.loop-at-test.true c.wide-size.result c.wide-size.ensures.0).piece.most)

pub overflow_add-next : goal.overflow_add-next
overflow_add-next c = let within : c.loop-at.end ≤ length c.loop-at.field = omega (arith, c.loop-at.invariant.filling.room, c.loop-at.invariant.filling.same) in
    let bound : length c.loop-at.field < 2 ^ 63 = search rules in
    omega (arith, (quick_turn _ (c.args.s.now) c.args.single c.args.spot c.loop-at.field c.loop-at.at c.loop-at.end c.loop-at.invariant c.loop-at-test.true c.wide-size.result c.wide-size.ensures.0).piece.most, within, bound)

pub slice_bounds-close-count : goal.slice_bounds-close-count
slice_bounds-close-count c = let within : c.loop-at.end ≤ length c.loop-at.field = omega (arith, c.loop-at.invariant.filling.room, c.loop-at.invariant.filling.same) in
    within

pub slice_bounds-close-start : goal.slice_bounds-close-start
slice_bounds-close-start c = let within : c.loop-at.end ≤ length c.loop-at.field = omega (arith, c.loop-at.invariant.filling.room, c.loop-at.invariant.filling.same) in
    within

pub returns-then-field-next : goal.returns-then-field-next
returns-then-field-next c = let s : List ℕ = c.args.s.now in
    let n : ℕ = length (c.args.field.now) - c.loop-at.end in
    let z : fits n (pieces_left s c.loop-at.at 0) ≡ 0 = no_room n s c.loop-at.at 0 _ _ _ (quick_turn _ (c.args.s.now) c.args.single c.args.spot c.loop-at.field c.loop-at.at c.loop-at.end c.loop-at.invariant c.loop-at-test.true c.wide-size.result c.wide-size.ensures.0).piece (omega (arith, c.if-field-next.true, c.loop-at.invariant.filling.same)) in
    quick_closed _ s c.args.single c.args.spot c.loop-at.field c.loop-at.at c.loop-at.end c.loop-at.invariant c.loop-at-test.true z c.close.new.room c.close.ensures

pub bounds-s-at-in-loop-at : goal.bounds-s-at-in-loop-at
bounds-s-at-in-loop-at c = omega (arith, (quick_turn _ (c.args.s.now) c.args.single c.args.spot c.loop-at.field c.loop-at.at c.loop-at.end c.loop-at.invariant c.loop-at-test.true c.wide-size.result c.wide-size.ensures.0).within)

pub overflow_add-stop : goal.overflow_add-stop
overflow_add-stop c = omega (arith, (quick_turn _ (c.args.s.now) c.args.single c.args.spot c.loop-at.field c.loop-at.at c.loop-at.end c.loop-at.invariant c.loop-at-test.true c.wide-size.result c.wide-size.ensures.0).piece.most)

pub overflow_add-stop-in-loop-at : goal.overflow_add-stop-in-loop-at
overflow_add-stop-in-loop-at c = omega (arith, (quick_turn _ (c.args.s.now) c.args.single c.args.spot c.loop-at.field c.loop-at.at c.loop-at.end c.loop-at.invariant c.loop-at-test.true c.wide-size.result c.wide-size.ensures.0).within, c.loop-at.invariant.spot_is.few)

pub slice_bounds-put_option-count : goal.slice_bounds-put_option-count
slice_bounds-put_option-count c = let within : c.loop-at.end ≤ length c.loop-at.field = omega (arith, c.loop-at.invariant.filling.room, c.loop-at.invariant.filling.same) in
    within

pub slice_bounds-put_option-start : goal.slice_bounds-put_option-start
slice_bounds-put_option-start c = let within : c.loop-at.end ≤ length c.loop-at.field = omega (arith, c.loop-at.invariant.filling.room, c.loop-at.invariant.filling.same) in
    within

pub overflow_add-at-in-loop-at : goal.overflow_add-at-in-loop-at
overflow_add-at-in-loop-at c = omega (arith, (quick_turn _ (c.args.s.now) c.args.single c.args.spot c.loop-at.field c.loop-at.at c.loop-at.end c.loop-at.invariant c.loop-at-test.true c.wide-size.result c.wide-size.ensures.0).within, c.loop-at.invariant.spot_is.few)

pub slice_bounds-put_option-end-in-loop-at : goal.slice_bounds-put_option-end-in-loop-at
slice_bounds-put_option-end-in-loop-at c = (quick_turn _ (c.args.s.now) c.args.single c.args.spot c.loop-at.field c.loop-at.at c.loop-at.end c.loop-at.invariant c.loop-at-test.true c.wide-size.result c.wide-size.ensures.0).within

pub loop-at-smaller : goal.loop-at-smaller
loop-at-smaller c = omega (arith, (quick_turn _ (c.args.s.now) c.args.single c.args.spot c.loop-at.field c.loop-at.at c.loop-at.end c.loop-at.invariant c.loop-at-test.true c.wide-size.result c.wide-size.ensures.0).within)

pub loop-at-preserved : goal.loop-at-preserved
loop-at-preserved c = let fits_here : c.wide-size.result + 2 < length (c.args.field.now) - c.loop-at.end = omega (arith, c.if-field-next.false, c.loop-at.invariant.filling.same) in
    let s = c.args.s.now in
    let k : ℕ = c.wide-size.result in
    quick_more _ s c.args.single c.args.spot c.loop-at.field c.loop-at.at c.loop-at.end c.loop-at.invariant c.loop-at-test.true k _ c.put_option.new.room (quick_turn _ (c.args.s.now) c.args.single c.args.spot c.loop-at.field c.loop-at.at c.loop-at.end c.loop-at.invariant c.loop-at-test.true c.wide-size.result c.wide-size.ensures.0) fits_here
    (part_is s (c.loop-at.at + 3) (c.loop-at.at + (k + 2 + 1)) k (omega arith)) c.put_option.ensures c.put_option.auto.room

pub slice_bounds-fill_pieces-count : goal.slice_bounds-fill_pieces-count
slice_bounds-fill_pieces-count c = let within : c.loop-at.end ≤ length c.loop-at.field = omega (arith, c.loop-at.invariant.filling.room, c.loop-at.invariant.filling.same) in
    within

pub slice_bounds-fill_pieces-start : goal.slice_bounds-fill_pieces-start
slice_bounds-fill_pieces-start c = let within : c.loop-at.end ≤ length c.loop-at.field = omega (arith, c.loop-at.invariant.filling.room, c.loop-at.invariant.filling.same) in
    within

pub fill_pieces-requires : goal.fill_pieces-requires
fill_pieces-requires c = let spot = c.loop-at.invariant.spot_is in
    (spot.few, spot.between)

pub returns : goal.returns
returns c = quick_handed _ (c.args.s.now) c.args.single c.args.spot c.loop-at.field c.loop-at.at c.loop-at.end c.loop-at.invariant c.loop-at-test.false c.fill_pieces.new.field c.fill_pieces.result c.fill_pieces.ensures.0 c.fill_pieces.ensures.1 c.fill_pieces.ensures.2
