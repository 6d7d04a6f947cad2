-- `gather::gather` meets its contract: at each turn what is put, with the pieces that are left, makes the whole. Assumes nothing.
use mathlib.Core.Path.{refl}
use native.Mathlib.Omega.{arith}
use Rattle.cursor.proofs.Steps.{over_still, over_next}
use Rattle.text.proofs.Putting.{left_all, puts_as}
use Rattle.gather.proofs.Steps.{pieces_done, piece_put, piece_passed}
use Rattle.gather.proofs.gather.Goals as goal

pub loop-item-init : goal.loop-item-init
loop-item-init c = rw c.into_iter-item-iterator.ensures.into_iter_gives (record { over = record { value = refl; message = refl }; left = left_all _ _ _ })

pub overflow_add-start : goal.overflow_add-start
overflow_add-start c = omega (arith, (over_next c.loop-item.invariant.over c.in-Some.ensures.steps).within, c.base.ensures.0)

pub overflow_add-start-then-code-item : goal.overflow_add-start-then-code-item
overflow_add-start-then-code-item c = omega (arith, (over_next c.loop-item.invariant.over c.in-Some.ensures.steps).within, c.base.ensures.0)

pub loop-item-preserved-then-code-item : goal.loop-item-preserved-then-code-item
loop-item-preserved-then-code-item c = record {
  over = over_still c.loop-item.invariant.over c.in-Some.ensures.steps;
  left = piece_put c.args.over c.args.m.now c.args.code c.loop-item.invariant.left c.loop-item.invariant.over c.in-Some.ensures.steps c.if-code-item.true c.base.ensures.0 (puts_as c.part.ensures.0 c.put_word-o.ensures);
}

pub loop-item-preserved : goal.loop-item-preserved
loop-item-preserved c = record {
  over = over_still c.loop-item.invariant.over c.in-Some.ensures.steps;
  left = piece_passed c.args.over c.args.m.now c.args.code c.loop-item.invariant.left c.loop-item.invariant.over c.in-Some.ensures.steps c.if-code-item.false;
}

pub returns : goal.returns
returns c = pieces_done c.args.over c.args.m.now c.args.code c.loop-item.invariant.left c.loop-item.invariant.over c.in-None.ensures.steps
