-- `listing::put_lines` meets its contract: at each turn what is put, with the lines of the options that are left, makes the whole. Assumes nothing.
use mathlib.Core.Path.{refl}
use native.Mathlib.Omega.{arith}
use Rattle.cursor.proofs.Steps.{over_still, over_next}
use Rattle.text.proofs.Putting.{left_all}
use Rattle.listing.proofs.Lines.{lines_done, line_put}
use Rattle.listing.proofs.put_lines.Goals as goal

pub loop-item-init : goal.loop-item-init
loop-item-init c = rw (c.into_iter-item-iterator.ensures.into_iter_gives, c.first.ensures) (record { over = record { value = refl; message = refl }; left = left_all _ _ _ })

pub overflow_add-start : goal.overflow_add-start
overflow_add-start c = omega (arith, (over_next c.loop-item.invariant.over c.in-Some.ensures.steps).within, c.base.ensures.0)

pub overflow_add-start-in-loop-item : goal.overflow_add-start-in-loop-item
overflow_add-start-in-loop-item c = omega (arith, (over_next c.loop-item.invariant.over c.in-Some.ensures.steps).within, c.base.ensures.0)

pub loop-item-preserved : goal.loop-item-preserved
loop-item-preserved c = record {
  over = over_still c.loop-item.invariant.over c.in-Some.ensures.steps;
  left = line_put c.args.over c.args.m.now c.loop-item.invariant.left c.loop-item.invariant.over c.in-Some.ensures.steps c.base.ensures.0 c.put_line-o.ensures;
}

pub returns : goal.returns
returns c = lines_done c.args.over c.args.m.now c.loop-item.invariant.left c.loop-item.invariant.over c.in-None.ensures.steps
