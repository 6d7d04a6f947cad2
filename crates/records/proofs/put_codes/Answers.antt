-- `records::put_codes` meets its contract: at each turn what is laid, with the records that are left, makes the whole. Assumes nothing.
use native.Mathlib.Omega.{arith}
use mathlib.Core.Path.{refl, sym, ap}
use Prim.Native.Nat.{◌+◌}
use lib.ListN.{length, get_or}
use Rattle.buffer.proofs.Writing.{written_as}
use Rattle.records.specs.Places.{MeetsAt}
use Rattle.records.proofs.Places.{part_is, stands_in, at_pad, field_goes, field_none, met_within, met, met_stands, met_left, met_less, met_size}
use Rattle.records.proofs.Joining.{putting_begins, putting_ends, putting_goes, putting_room, putting_small, putting_on, putting_once, once_met, other_met}
use Rattle.records.proofs.put_codes.Goals as goal

pub loop-table-init : goal.loop-table-init
loop-table-init c = putting_begins c.args.over c.args.m.now c.args.out.now c.args.table.now c.requires.0 c.requires.1 c.requires.2 c.requires.3

pub bounds-m-i : goal.bounds-m-i
bounds-m-i c = stands_in c.args.over c.args.m.now c.loop-table.invariant.stands

pub bounds-m-i-then-table-wide-eq1 : goal.bounds-m-i-then-table-wide-eq1
bounds-m-i-then-table-wide-eq1 c = let k : MeetsAt c.args.over c.args.m.now c.loop-table.i c.loop-table.i = once_met c.loop-table.invariant (rw c.wide.ensures.0 at c.if-table-wide-eq1.true) in omega (arith, met_within k (get_or c.args.m.now (c.loop-table.i + 1) 0) _ refl refl)

pub slice_bounds-put_once-end : goal.slice_bounds-put_once-end
slice_bounds-put_once-end c = let k : MeetsAt c.args.over c.args.m.now c.loop-table.i c.loop-table.i = once_met c.loop-table.invariant (rw c.wide.ensures.0 at c.if-table-wide-eq1.true) in omega (arith, met_within k c.wide-then-table-wide-eq1.result _ c.wide-then-table-wide-eq1.ensures.0 refl)

pub put_once-o-requires : goal.put_once-o-requires
put_once-o-requires c = let k : MeetsAt c.args.over c.args.m.now c.loop-table.i c.loop-table.i = once_met c.loop-table.invariant (rw c.wide.ensures.0 at c.if-table-wide-eq1.true) in
    rw (part_is c.args.m.now c.loop-table.i c.wide-then-table-wide-eq1.result) (
      c.loop-table.invariant.tells.bytes,
      omega (arith, putting_room c.loop-table.invariant (met k c.wide-then-table-wide-eq1.result _ c.wide-then-table-wide-eq1.ensures.0 refl) (met_stands k c.wide-then-table-wide-eq1.result _ c.wide-then-table-wide-eq1.ensures.0 refl) (met_left k c.wide-then-table-wide-eq1.result _ c.wide-then-table-wide-eq1.ensures.0 refl), ap length (putting_once c.loop-table.invariant (met k c.wide-then-table-wide-eq1.result _ c.wide-then-table-wide-eq1.ensures.0 refl) (met_stands k c.wide-then-table-wide-eq1.result _ c.wide-then-table-wide-eq1.ensures.0 refl) (met_left k c.wide-then-table-wide-eq1.result _ c.wide-then-table-wide-eq1.ensures.0 refl) (omega arith) (rw c.wide.ensures.0 at c.if-table-wide-eq1.true) (omega (arith, met_size k c.wide-then-table-wide-eq1.result _ c.wide-then-table-wide-eq1.ensures.0 refl, c.wide-then-table-wide-eq1.ensures.1)))),
      omega (arith, met_size k c.wide-then-table-wide-eq1.result _ c.wide-then-table-wide-eq1.ensures.0 refl, c.wide-then-table-wide-eq1.ensures.1),
    )

pub loop-table-smaller-then-table-wide-eq1 : goal.loop-table-smaller-then-table-wide-eq1
loop-table-smaller-then-table-wide-eq1 c = let k : MeetsAt c.args.over c.args.m.now c.loop-table.i c.loop-table.i = once_met c.loop-table.invariant (rw c.wide.ensures.0 at c.if-table-wide-eq1.true) in met_less k c.wide-then-table-wide-eq1.result _ c.wide-then-table-wide-eq1.ensures.0 refl

pub loop-table-preserved-then-table-wide-eq1 : goal.loop-table-preserved-then-table-wide-eq1
loop-table-preserved-then-table-wide-eq1 c = let k : MeetsAt c.args.over c.args.m.now c.loop-table.i c.loop-table.i = once_met c.loop-table.invariant (rw c.wide.ensures.0 at c.if-table-wide-eq1.true) in
    rw c.put_once-o.ensures.1
    (putting_on c.loop-table.invariant (met k c.wide-then-table-wide-eq1.result _ c.wide-then-table-wide-eq1.ensures.0 refl) (met_stands k c.wide-then-table-wide-eq1.result _ c.wide-then-table-wide-eq1.ensures.0 refl) (met_left k c.wide-then-table-wide-eq1.result _ c.wide-then-table-wide-eq1.ensures.0 refl) c.put_once-o.auto.out
    (written_as (sym (putting_once c.loop-table.invariant (met k c.wide-then-table-wide-eq1.result _ c.wide-then-table-wide-eq1.ensures.0 refl) (met_stands k c.wide-then-table-wide-eq1.result _ c.wide-then-table-wide-eq1.ensures.0 refl) (met_left k c.wide-then-table-wide-eq1.result _ c.wide-then-table-wide-eq1.ensures.0 refl) (omega arith) (rw c.wide.ensures.0 at c.if-table-wide-eq1.true) (omega (arith, met_size k c.wide-then-table-wide-eq1.result _ c.wide-then-table-wide-eq1.ensures.0 refl, c.wide-then-table-wide-eq1.ensures.1)))) (rw (part_is c.args.m.now c.loop-table.i c.wide-then-table-wide-eq1.result) at c.put_once-o.ensures.0)))

pub returns-in_default : goal.returns-in_default
returns-in_default c = putting_ends c.loop-table.invariant (field_none c.loop-table.invariant.stands c.if-c.true c.in_default.ensures)

pub loop-table-smaller-then-c : goal.loop-table-smaller-then-c
loop-table-smaller-then-c c = (field_goes c.loop-table.invariant.stands c.requires.0 c.if-c.true _ c.in-Some.ensures).less

pub loop-table-preserved-then-c : goal.loop-table-preserved-then-c
loop-table-preserved-then-c c = putting_goes c.loop-table.invariant (field_goes c.loop-table.invariant.stands c.requires.0 c.if-c.true _ c.in-Some.ensures)

pub overflow_add-i-then-c-eq0 : goal.overflow_add-i-then-c-eq0
overflow_add-i-then-c-eq0 c = omega (arith, stands_in c.args.over c.args.m.now c.loop-table.invariant.stands)

pub loop-table-smaller-then-c-eq0 : goal.loop-table-smaller-then-c-eq0
loop-table-smaller-then-c-eq0 c = (at_pad c.args.over c.args.m.now c.loop-table.invariant.stands c.if-c-eq0.true).less

pub loop-table-preserved-then-c-eq0 : goal.loop-table-preserved-then-c-eq0
loop-table-preserved-then-c-eq0 c = putting_goes c.loop-table.invariant (at_pad c.args.over c.args.m.now c.loop-table.invariant.stands c.if-c-eq0.true)

pub put_first-o-requires : goal.put_first-o-requires
put_first-o-requires c = let k : MeetsAt c.args.over c.args.m.now c.loop-table.i c.loop-table.i = other_met c.loop-table.invariant c.if-c-eq0.false c.if-c.false in
    let y = c.loop-table.invariant in
    (c.requires.0, y.stands, y.tells.bytes, omega (arith, putting_room y (met k (get_or c.args.m.now (c.loop-table.i + 1) 0) _ refl refl) (met_stands k (get_or c.args.m.now (c.loop-table.i + 1) 0) _ refl refl) (met_left k (get_or c.args.m.now (c.loop-table.i + 1) 0) _ refl refl)), putting_small y (met k (get_or c.args.m.now (c.loop-table.i + 1) 0) _ refl refl) (met_stands k (get_or c.args.m.now (c.loop-table.i + 1) 0) _ refl refl) (met_left k (get_or c.args.m.now (c.loop-table.i + 1) 0) _ refl refl))

pub bounds-m-i-else-c-eq0 : goal.bounds-m-i-else-c-eq0
bounds-m-i-else-c-eq0 c = let k : MeetsAt c.args.over c.args.m.now c.loop-table.i c.loop-table.i = other_met c.loop-table.invariant c.if-c-eq0.false c.if-c.false in omega (arith, met_within k (get_or c.args.m.now (c.loop-table.i + 1) 0) _ refl refl)

pub loop-table-smaller : goal.loop-table-smaller
loop-table-smaller c = let k : MeetsAt c.args.over c.args.m.now c.loop-table.i c.loop-table.i = other_met c.loop-table.invariant c.if-c-eq0.false c.if-c.false in met_less k c.wide-else-c-eq0.result _ c.wide-else-c-eq0.ensures.0 refl

pub loop-table-preserved : goal.loop-table-preserved
loop-table-preserved c = let k : MeetsAt c.args.over c.args.m.now c.loop-table.i c.loop-table.i = other_met c.loop-table.invariant c.if-c-eq0.false c.if-c.false in
    rw c.put_first-o.ensures.1 (putting_on c.loop-table.invariant (met k c.wide-else-c-eq0.result _ c.wide-else-c-eq0.ensures.0 refl) (met_stands k c.wide-else-c-eq0.result _ c.wide-else-c-eq0.ensures.0 refl) (met_left k c.wide-else-c-eq0.result _ c.wide-else-c-eq0.ensures.0 refl) c.put_first-o.auto.out c.put_first-o.ensures.0)
