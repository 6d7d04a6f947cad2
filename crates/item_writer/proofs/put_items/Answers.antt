-- `item_writer::put_items` meets its contract: at each turn what is laid, with what is left of the sheet, is the whole. Assumes nothing.
use borrow.Author.Rules.{rules}
use native.Mathlib.Omega.{arith}
use Prim.Native.Nat.{◌+◌, ◌≤◌, ◌<◌}
use lib.ListN.{length, get_or}
use Rattle.item_writer.proofs.Putting.{laid_option, putting_begins, putting_ends, head_in, part, within, part_length, part_brief, item_room, putting_on}
use Rattle.item_writer.proofs.put_items.Goals as goal

-- ---- The needs
pub loop-at-init : goal.loop-at-init
loop-at-init c = putting_begins c.args.s.now c.args.out.now c.requires.0 c.requires.1 c.requires.2

pub overflow_add-at : goal.overflow_add-at
overflow_add-at c = omega (arith, head_in c.loop-at.invariant c.loop-at-test.true)

pub bounds-s-at : goal.bounds-s-at
bounds-s-at c = omega (arith, head_in c.loop-at.invariant c.loop-at-test.true)

pub overflow_add-start : goal.overflow_add-start
overflow_add-start c = omega (arith, (within c.loop-at.invariant c.loop-at-test.true c.wide-size.result c.wide-size.ensures.0))

pub overflow_add-end : goal.overflow_add-end
overflow_add-end c = omega (arith, (within c.loop-at.invariant c.loop-at-test.true c.wide-size.result c.wide-size.ensures.0))

pub overflow_add-next : goal.overflow_add-next
overflow_add-next c = let room : c.loop-at.o + 2 + c.wide-size.result ≤ length c.loop-at.out = omega (arith, item_room c.loop-at.invariant c.loop-at-test.true c.wide-size.result c.wide-size.ensures.0) in
    let bound : length c.loop-at.out < 18446744073709551616 = search rules in
    omega (arith, room, bound)

pub overflow_add-next-in-loop-at : goal.overflow_add-next-in-loop-at
overflow_add-next-in-loop-at c = let room : c.loop-at.o + 2 + c.wide-size.result ≤ length c.loop-at.out = omega (arith, item_room c.loop-at.invariant c.loop-at-test.true c.wide-size.result c.wide-size.ensures.0) in
    let bound : length c.loop-at.out < 18446744073709551616 = search rules in
    omega (arith, room, bound)

pub slice_bounds-put_option-end : goal.slice_bounds-put_option-end
slice_bounds-put_option-end c = let room : c.loop-at.o + 2 + c.wide-size.result ≤ length c.loop-at.out = omega (arith, item_room c.loop-at.invariant c.loop-at-test.true c.wide-size.result c.wide-size.ensures.0) in
    room

pub bounds-s-at-in-loop-at : goal.bounds-s-at-in-loop-at
bounds-s-at-in-loop-at c = c.loop-at-test.true

pub slice_bounds-put_option-end-in-loop-at : goal.slice_bounds-put_option-end-in-loop-at
slice_bounds-put_option-end-in-loop-at c = within c.loop-at.invariant c.loop-at-test.true c.wide-size.result c.wide-size.ensures.0

pub loop-at-smaller : goal.loop-at-smaller
loop-at-smaller c = omega (arith, (within c.loop-at.invariant c.loop-at-test.true c.wide-size.result c.wide-size.ensures.0))

pub loop-at-preserved : goal.loop-at-preserved
loop-at-preserved c = let room : c.loop-at.o + 2 + c.wide-size.result ≤ length c.loop-at.out = omega (arith, item_room c.loop-at.invariant c.loop-at-test.true c.wide-size.result c.wide-size.ensures.0) in
    let n = c.wide-size.result in
    let q = c.wide-size.ensures.0 in
    putting_on c.loop-at.invariant c.loop-at-test.true n q
    (laid_option c.loop-at.out c.loop-at.o (c.loop-at.o + 2 + n) (get_or (c.args.s.now) c.loop-at.at 0) (part c.loop-at.invariant c.loop-at-test.true n q) c.put_option.new.room (part_brief c.loop-at.invariant c.loop-at-test.true n q) (omega (arith, part_length c.loop-at.invariant c.loop-at-test.true n q)) room c.put_option.ensures)

pub shape_of-out : goal.shape_of-out
shape_of-out c = c.loop-at.invariant.same

pub returns : goal.returns
returns c = putting_ends c.loop-at.invariant c.loop-at-test.false
