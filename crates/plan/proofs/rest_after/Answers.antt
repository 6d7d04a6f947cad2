-- `plan::rest_after` meets its contract. Assumes nothing.
use mathlib.Core.Path.{◌≡◌, refl, ap, ◌∙◌, subst}
use Prim.Native.Nat.{◌+◌, ◌-◌, ◌^◌, ◌<◌}
use native.Mathlib.Omega.{arith}
use lib.ListN.{length, get_or}
use Rattle.options.specs.Writing.{fits, pieces_left}
use Rattle.plan.specs.Steps.{sizes, left_over, From, Single}
use Rattle.plan.proofs.Counting.{Turn, turn, no_room, counting_none, counting_more, counted}
use borrow.Author.Rules.{rules}
use Rattle.plan.proofs.rest_after.Goals as goal

pub loop-place-init : goal.loop-place-init
loop-place-init c = (counting_none _ c.args.s.now c.args.rest.place c.args.rest.done c.requires.0, c.requires.1)

pub overflow_add-place : goal.overflow_add-place
overflow_add-place c = omega (arith, ((let here₁ : Turn (c.args.s.now) c.args.single c.loop-place.place c.args.rest.done (get_or (c.args.s.now) (c.loop-place.place + 2) 0) = turn (c.args.s.now) c.args.single c.loop-place.place c.args.rest.done c.loop-place.invariant.0.between c.loop-place.invariant.1 c.loop-place-test.true _ refl in here₁)).within, (let bound₁ : length (c.args.s.now) < 2 ^ 63 = search rules in bound₁))

pub bounds-s-place : goal.bounds-s-place
bounds-s-place c = omega (arith, ((let here₁ : Turn (c.args.s.now) c.args.single c.loop-place.place c.args.rest.done (get_or (c.args.s.now) (c.loop-place.place + 2) 0) = turn (c.args.s.now) c.args.single c.loop-place.place c.args.rest.done c.loop-place.invariant.0.between c.loop-place.invariant.1 c.loop-place-test.true _ refl in here₁)).within)

pub overflow_add-size : goal.overflow_add-size
overflow_add-size c = omega (arith, (turn (c.args.s.now) c.args.single c.loop-place.place c.args.rest.done c.loop-place.invariant.0.between c.loop-place.invariant.1 c.loop-place-test.true c.wide-size.result c.wide-size.ensures.0).piece.most)

pub overflow_sub-result : goal.overflow_sub-result
overflow_sub-result c = c.loop-place.invariant.0.within

pub overflow_sub-result-then-left-size : goal.overflow_sub-result-then-left-size
overflow_sub-result-then-left-size c = omega (arith, c.requires.2, c.loop-place.invariant.0.sum)

pub returns-then-left-size : goal.returns-then-left-size
returns-then-left-size c = let x = (turn (c.args.s.now) c.args.single c.loop-place.place c.args.rest.done c.loop-place.invariant.0.between c.loop-place.invariant.1 c.loop-place-test.true c.wide-size.result c.wide-size.ensures.0) in
    let z : fits c.loop-place.left (pieces_left (c.args.s.now) c.loop-place.place c.args.rest.done) ≡ 0 = no_room c.loop-place.left (c.args.s.now) c.loop-place.place c.args.rest.done _ _ _ x.piece c.if-left-size.true in
    let o : From (c.args.s.now) (left_over c.args.room (pieces_left (c.args.s.now) c.args.rest.place c.args.rest.done)) c.loop-place.place c.args.rest.done =
    counted _ (c.args.s.now) c.args.rest.place c.args.rest.done c.loop-place.place c.args.rest.done c.loop-place.left c.loop-place.invariant.0 z in
    let d : c.args.rest.done ≡ 0 = x.none_done in (
      record { onward = c.loop-place.invariant.0.onward; from = subst (From (c.args.s.now) (left_over c.args.room (pieces_left (c.args.s.now) c.args.rest.place c.args.rest.done)) c.loop-place.place) d o; total = (let less₁ : c.args.rest.total - (c.args.room - c.loop-place.left) ≡ sizes (pieces_left (c.args.s.now) c.loop-place.place c.args.rest.done) = omega (arith, c.requires.2, c.loop-place.invariant.0.sum) in less₁) ∙ ap sizes o.pieces },
      subst (Single (c.args.s.now) c.args.single c.loop-place.place) d c.loop-place.invariant.1,
    )

pub overflow_sub-left : goal.overflow_sub-left
overflow_sub-left c = omega (arith, c.if-left-size.false)

pub overflow_add-place-in-loop-place : goal.overflow_add-place-in-loop-place
overflow_add-place-in-loop-place c = omega (arith, (turn (c.args.s.now) c.args.single c.loop-place.place c.args.rest.done c.loop-place.invariant.0.between c.loop-place.invariant.1 c.loop-place-test.true c.wide-size.result c.wide-size.ensures.0).piece.most)

pub overflow_add-place-in-loop-place-2 : goal.overflow_add-place-in-loop-place-2
overflow_add-place-in-loop-place-2 c = omega (arith, (turn (c.args.s.now) c.args.single c.loop-place.place c.args.rest.done c.loop-place.invariant.0.between c.loop-place.invariant.1 c.loop-place-test.true c.wide-size.result c.wide-size.ensures.0).within, (let bound₁ : length (c.args.s.now) < 2 ^ 63 = search rules in bound₁))

pub loop-place-smaller : goal.loop-place-smaller
loop-place-smaller c = omega (arith, (turn (c.args.s.now) c.args.single c.loop-place.place c.args.rest.done c.loop-place.invariant.0.between c.loop-place.invariant.1 c.loop-place-test.true c.wide-size.result c.wide-size.ensures.0).within)

pub loop-place-preserved : goal.loop-place-preserved
loop-place-preserved c = (counting_more _ _ _ _ c.loop-place.place _ c.loop-place.left _ _ _ c.loop-place.invariant.0 (turn (c.args.s.now) c.args.single c.loop-place.place c.args.rest.done c.loop-place.invariant.0.between c.loop-place.invariant.1 c.loop-place-test.true c.wide-size.result c.wide-size.ensures.0).piece (omega arith) c.if-left-size.false, (turn (c.args.s.now) c.args.single c.loop-place.place c.args.rest.done c.loop-place.invariant.0.between c.loop-place.invariant.1 c.loop-place-test.true c.wide-size.result c.wide-size.ensures.0).singles)

pub rest_pieces-requires : goal.rest_pieces-requires
rest_pieces-requires c = (c.loop-place.invariant.0.between, (let less₁ : c.args.rest.total - (c.args.room - c.loop-place.left) ≡ sizes (pieces_left (c.args.s.now) c.loop-place.place c.args.rest.done) = omega (arith, c.requires.2, c.loop-place.invariant.0.sum) in less₁))

pub returns : goal.returns
returns c = let r = c.rest_pieces.ensures in
    let e : left_over c.loop-place.left (pieces_left (c.args.s.now) c.loop-place.place c.args.rest.done) ≡ left_over c.args.room (pieces_left (c.args.s.now) c.args.rest.place c.args.rest.done) = c.loop-place.invariant.0.rest in (
      record { from = record { pieces = r.from.pieces ∙ e; between = r.from.between }; onward = omega (arith, c.loop-place.invariant.0.onward, r.onward); total = r.total ∙ ap sizes e },
      λ z. absurd (omega (arith, z, c.loop-place-test.false, r.onward)),
    )
