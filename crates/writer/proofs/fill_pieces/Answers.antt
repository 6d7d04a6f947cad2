-- `writer::fill_pieces` meets its contract. Assumes nothing.
use mathlib.Core.Path.{◌≡◌, sym, subst}
use mathlib.Core.List.{List}
use Prim.Native.Nat.{ℕ, ◌+◌, ◌-◌, ◌*◌, ◌/◌, ◌^◌, ◌<◌, ◌≤◌}
use native.Mathlib.Omega.{arith}
use lib.ListN.{length}
use Rattle.options.specs.Message.{Rec}
use Rattle.options.specs.Writing.{fits, pieces_left}
use Rattle.plan.specs.Steps.{left_over, From}
use Rattle.plan.specs.Pieces.{size_of}
use Rattle.plan.proofs.Counting.{head_at, piece_at, at_end_lem, no_room, counted}
use Rattle.writer.specs.Fill.{place_in, done_in}
use Rattle.writer.proofs.Filling.{filling_none, filling_more, closed, place_back, done_back, done_few, within_sheet, still_255, part_is}
use borrow.Author.Rules.{rules}
use Rattle.writer.proofs.fill_pieces.Goals as goal
use Rattle.writer.proofs.fill_pieces.Goals.{else-loop-at-test, then-loop-at-test+then-field-next}

pub overflow_mul-done : goal.overflow_mul-done
overflow_mul-done c = omega (arith, done_few _ _ _ c.requires.1)

pub loop-at-init : goal.loop-at-init
loop-at-init c = (filling_none c.args.s.now (place_in c.args.spot) (done_in c.args.spot) c.args.field.now c.requires.1, omega arith)

pub bounds-s-at-in-loop-at : goal.bounds-s-at-in-loop-at
bounds-s-at-in-loop-at c = head_at (c.args.s.now) c.loop-at.at c.loop-at.done c.loop-at.invariant.0.counts.between c.loop-at-test.true

pub overflow_add-next : goal.overflow_add-next
overflow_add-next c = omega (arith, (piece_at (c.args.s.now) c.loop-at.at c.loop-at.done c.next_piece-piece.result c.loop-at.invariant.0.counts.between c.loop-at-test.true c.next_piece-piece.ensures).most)

pub overflow_add-next-in-loop-at : goal.overflow_add-next-in-loop-at
overflow_add-next-in-loop-at c = let within : c.loop-at.end ≤ length c.loop-at.field = omega (arith, c.loop-at.invariant.0.room, c.loop-at.invariant.0.same) in
    let bound : length c.loop-at.field < 2 ^ 63 = search rules in
    omega (arith, (piece_at (c.args.s.now) c.loop-at.at c.loop-at.done c.next_piece-piece.result c.loop-at.invariant.0.counts.between c.loop-at-test.true c.next_piece-piece.ensures).most, within, bound)

pub bounds-s-at : goal.bounds-s-at
bounds-s-at c = omega (arith, head_at (c.args.s.now) c.loop-at.at c.loop-at.done c.loop-at.invariant.0.counts.between c.loop-at-test.true)

pub overflow_add-start : goal.overflow_add-start
overflow_add-start c = omega (arith, (piece_at (c.args.s.now) c.loop-at.at c.loop-at.done c.next_piece-piece.result c.loop-at.invariant.0.counts.between c.loop-at-test.true c.next_piece-piece.ensures).within, c.requires.0)

pub overflow_add-start-in-loop-at : goal.overflow_add-start-in-loop-at
overflow_add-start-in-loop-at c = omega (arith, (piece_at (c.args.s.now) c.loop-at.at c.loop-at.done c.next_piece-piece.result c.loop-at.invariant.0.counts.between c.loop-at-test.true c.next_piece-piece.ensures).within, c.requires.0)

pub slice_bounds-put_option-count : goal.slice_bounds-put_option-count
slice_bounds-put_option-count c = let within : c.loop-at.end ≤ length c.loop-at.field = omega (arith, c.loop-at.invariant.0.room, c.loop-at.invariant.0.same) in
    within

pub slice_bounds-put_option-start : goal.slice_bounds-put_option-start
slice_bounds-put_option-start c = let within : c.loop-at.end ≤ length c.loop-at.field = omega (arith, c.loop-at.invariant.0.room, c.loop-at.invariant.0.same) in
    within

pub overflow_add-start-in-loop-at-2 : goal.overflow_add-start-in-loop-at-2
overflow_add-start-in-loop-at-2 c = omega (arith, (piece_at (c.args.s.now) c.loop-at.at c.loop-at.done c.next_piece-piece.result c.loop-at.invariant.0.counts.between c.loop-at-test.true c.next_piece-piece.ensures).within, c.requires.0)

pub slice_bounds-put_option-end-in-loop-at : goal.slice_bounds-put_option-end-in-loop-at
slice_bounds-put_option-end-in-loop-at c = omega (arith, (piece_at (c.args.s.now) c.loop-at.at c.loop-at.done c.next_piece-piece.result c.loop-at.invariant.0.counts.between c.loop-at-test.true c.next_piece-piece.ensures).within)

pub loop-at-smaller : goal.loop-at-smaller
loop-at-smaller c = omega (arith, (piece_at (c.args.s.now) c.loop-at.at c.loop-at.done c.next_piece-piece.result c.loop-at.invariant.0.counts.between c.loop-at-test.true c.next_piece-piece.ensures).further, (piece_at (c.args.s.now) c.loop-at.at c.loop-at.done c.next_piece-piece.result c.loop-at.invariant.0.counts.between c.loop-at-test.true c.next_piece-piece.ensures).within)

pub loop-at-preserved : goal.loop-at-preserved
loop-at-preserved c = let fits_here : c.next_piece-piece.result.size + 2 < length (c.args.field.now) - c.loop-at.end = omega (arith, c.if-field-next.false, c.loop-at.invariant.0.same) in
    let s = c.args.s.now in
    let i : ℕ = c.loop-at.at + 3 + c.loop-at.done in
    let k : ℕ = c.next_piece-piece.result.size in
    let spot = c.args.spot in (
      filling_more _ s (place_in spot) (done_in spot) c.loop-at.field c.loop-at.at c.loop-at.done c.loop-at.end c.loop-at.invariant.0 k _ _ _ c.put_option.new.room (piece_at (c.args.s.now) c.loop-at.at c.loop-at.done c.next_piece-piece.result c.loop-at.invariant.0.counts.between c.loop-at-test.true c.next_piece-piece.ensures) (omega arith) fits_here
          (part_is s i (i + k) k (omega arith)) c.put_option.ensures c.put_option.auto.room,
      still_255 (size_of s c.loop-at.at) c.loop-at.done c.next_piece-piece.result c.loop-at.invariant.1 c.next_piece-piece.ensures,
    )

pub slice_bounds-close-count : goal.slice_bounds-close-count
slice_bounds-close-count c = let within : c.loop-at.end ≤ length c.loop-at.field = omega (arith, c.loop-at.invariant.0.room, c.loop-at.invariant.0.same) in
    within

pub slice_bounds-close-start : goal.slice_bounds-close-start
slice_bounds-close-start c = let within : c.loop-at.end ≤ length c.loop-at.field = omega (arith, c.loop-at.invariant.0.room, c.loop-at.invariant.0.same) in
    within

pub overflow_mul-result : goal.overflow_mul-result
overflow_mul-result c = omega (arith, done_few _ _ _ c.loop-at.invariant.0.counts.between)

pub overflow_add-result : goal.overflow_add-result
overflow_add-result c = let few : c.loop-at.at < 65536 = omega (arith, within_sheet _ _ _ c.loop-at.invariant.0.counts.between, c.requires.0) in
    omega (arith, few, done_few _ _ _ c.loop-at.invariant.0.counts.between)

pub returns : goal.returns
returns c = let few : c.loop-at.at < 65536 = omega (arith, within_sheet _ _ _ c.loop-at.invariant.0.counts.between, c.requires.0) in
    let s : List ℕ = c.args.s.now in
    let spot = c.args.spot in
    let n : ℕ = length (c.args.field.now) - c.loop-at.end in
    let z : fits n (pieces_left s c.loop-at.at c.loop-at.done) ≡ 0 =
    elim c.loop-at-test.branch [
      | else-loop-at-test w ↦ at_end_lem n s c.loop-at.at c.loop-at.done w.loop-at-test.false
      | then-loop-at-test+then-field-next w ↦ no_room n s c.loop-at.at c.loop-at.done _ _ _
          (piece_at s c.loop-at.at c.loop-at.done w.next_piece-piece.result c.loop-at.invariant.0.counts.between w.loop-at-test.true w.next_piece-piece.ensures) (omega (arith, w.if-field-next.true, c.loop-at.invariant.0.same))
    ] in
    let ps : List Rec = left_over (length (c.args.field.now)) (pieces_left s (place_in spot) (done_in spot)) in
    let from : From s ps c.loop-at.at c.loop-at.done = counted _ s (place_in spot) (done_in spot) c.loop-at.at c.loop-at.done _ c.loop-at.invariant.0.counts z in (
      closed _ s (place_in spot) (done_in spot) c.loop-at.field c.loop-at.at c.loop-at.done c.loop-at.end c.loop-at.invariant.0 z c.close.new.room c.close.ensures,
      subst (λ (j : ℕ). From s ps (place_in (c.loop-at.at + 65536 * (c.loop-at.done / 255))) j) (sym (done_back c.loop-at.at c.loop-at.done few c.loop-at.invariant.1))
          (subst (λ (i : ℕ). From s ps i c.loop-at.done) (sym (place_back c.loop-at.at c.loop-at.done few c.loop-at.invariant.1)) from),
      omega (arith, c.loop-at.invariant.0.counts.onward, place_back c.loop-at.at c.loop-at.done few c.loop-at.invariant.1),
    )
