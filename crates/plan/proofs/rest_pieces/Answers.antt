-- `plan::rest_pieces` meets its contract. Assumes nothing.
use mathlib.Core.Path.{◌≡◌, ap, ◌∙◌}
use mathlib.Core.List.{List}
use Prim.Native.Nat.{ℕ, ◌-◌}
use native.Mathlib.Omega.{arith}
use Rattle.options.specs.Writing.{fits, pieces_left}
use Rattle.plan.specs.Steps.{sizes, left_over, From}
use Rattle.plan.proofs.Counting.{head_at, piece_at, at_end_lem, no_room, counting_none, counting_more, counted}
use Rattle.plan.proofs.rest_pieces.Goals as goal
use Rattle.plan.proofs.rest_pieces.Goals.{else-loop-place-test, then-loop-place-test+then-left-size}

pub loop-place-init : goal.loop-place-init
loop-place-init c = counting_none _ c.args.s.now c.args.rest.place c.args.rest.done c.requires.0

pub bounds-s-place : goal.bounds-s-place
bounds-s-place c = omega (arith, head_at c.args.s.now c.loop-place.place c.loop-place.done c.loop-place.invariant.between c.loop-place-test.true)

pub bounds-s-place-in-loop-place : goal.bounds-s-place-in-loop-place
bounds-s-place-in-loop-place c = head_at c.args.s.now c.loop-place.place c.loop-place.done c.loop-place.invariant.between c.loop-place-test.true

pub overflow_add-size : goal.overflow_add-size
overflow_add-size c = let p = piece_at c.args.s.now c.loop-place.place c.loop-place.done _ c.loop-place.invariant.between c.loop-place-test.true c.next_piece-piece.ensures in
    omega (arith, p.most)

pub overflow_sub-left : goal.overflow_sub-left
overflow_sub-left c = omega (arith, c.if-left-size.false)

pub loop-place-smaller : goal.loop-place-smaller
loop-place-smaller c = let p = piece_at c.args.s.now c.loop-place.place c.loop-place.done _ c.loop-place.invariant.between c.loop-place-test.true c.next_piece-piece.ensures in
    omega (arith, p.further, p.within)

pub loop-place-preserved : goal.loop-place-preserved
loop-place-preserved c = let p = piece_at c.args.s.now c.loop-place.place c.loop-place.done _ c.loop-place.invariant.between c.loop-place-test.true c.next_piece-piece.ensures in
    counting_more _ _ _ _ c.loop-place.place c.loop-place.done c.loop-place.left _ _ _ c.loop-place.invariant p (omega arith) c.if-left-size.false

pub overflow_sub-result : goal.overflow_sub-result
overflow_sub-result c = c.loop-place.invariant.within

pub overflow_sub-result-2 : goal.overflow_sub-result-2
overflow_sub-result-2 c = omega (arith, c.requires.1, c.loop-place.invariant.sum)

pub returns : goal.returns
returns c = let s : List ℕ = c.args.s.now in
    let z : fits c.loop-place.left (pieces_left s c.loop-place.place c.loop-place.done) ≡ 0 =
    elim c.loop-place-test.branch [
      | else-loop-place-test w ↦ at_end_lem c.loop-place.left s c.loop-place.place c.loop-place.done w.loop-place-test.false
      | then-loop-place-test+then-left-size w ↦ no_room c.loop-place.left s c.loop-place.place c.loop-place.done _ _ _
          (piece_at s c.loop-place.place c.loop-place.done w.next_piece-piece.result c.loop-place.invariant.between w.loop-place-test.true w.next_piece-piece.ensures) w.if-left-size.true
    ] in
    let o : From s (left_over c.args.room (pieces_left s c.args.rest.place c.args.rest.done)) c.loop-place.place c.loop-place.done =
    counted _ s c.args.rest.place c.args.rest.done c.loop-place.place c.loop-place.done c.loop-place.left c.loop-place.invariant z in
    let n : c.args.rest.total - (c.args.room - c.loop-place.left) ≡ sizes (pieces_left s c.loop-place.place c.loop-place.done) = omega (arith, c.requires.1, c.loop-place.invariant.sum) in
    record { from = o; onward = c.loop-place.invariant.onward; total = n ∙ ap sizes o.pieces }
