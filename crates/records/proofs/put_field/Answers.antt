-- `records::put_field` meets its contract: at each turn what is laid, with what is left of the field, is the whole. Assumes nothing.
use native.Mathlib.Omega.{arith}
use Prim.Native.Nat.{◌+◌, ◌≤◌}
use lib.ListN.{length, get_or}
use Rattle.records.proofs.Laying.{laying_begins, laying_in, laying_ends, laying_pad, laying_within, part_length, option_room, laying_on}
use Rattle.records.proofs.put_field.Goals as goal

pub loop-at-init : goal.loop-at-init
loop-at-init c = laying_begins c.args.f.now c.args.out.now c.args.at c.requires.0 c.requires.1

pub bounds-f-i : goal.bounds-f-i
bounds-f-i c = laying_in c.loop-at.invariant

pub shape_of-out-then-c : goal.shape_of-out-then-c
shape_of-out-then-c c = c.loop-at.invariant.same

pub returns-then-c : goal.returns-then-c
returns-then-c c = laying_ends c.loop-at.invariant c.if-c.true

pub overflow_add-i : goal.overflow_add-i
overflow_add-i c = omega (arith, laying_in c.loop-at.invariant)

pub loop-at-smaller-then-c-eq0 : goal.loop-at-smaller-then-c-eq0
loop-at-smaller-then-c-eq0 c = omega (arith, laying_in c.loop-at.invariant)

pub loop-at-preserved-then-c-eq0 : goal.loop-at-preserved-then-c-eq0
loop-at-preserved-then-c-eq0 c = laying_pad c.loop-at.invariant c.if-c-eq0.true

pub overflow_add-j : goal.overflow_add-j
overflow_add-j c = omega (arith, (let within₁ : let f = c.args.f.now in c.loop-at.i + 2 + get_or f (c.loop-at.i + 1) 0 ≤ length f = laying_within c.loop-at.invariant c.if-c-eq0.false c.if-c.false in within₁))

pub overflow_add-i-else-c-eq0 : goal.overflow_add-i-else-c-eq0
overflow_add-i-else-c-eq0 c = omega (arith, (let within₁ : let f = c.args.f.now in c.loop-at.i + 2 + get_or f (c.loop-at.i + 1) 0 ≤ length f = laying_within c.loop-at.invariant c.if-c-eq0.false c.if-c.false in within₁))

pub bounds-f-i-else-c-eq0 : goal.bounds-f-i-else-c-eq0
bounds-f-i-else-c-eq0 c = omega (arith, (let within₁ : let f = c.args.f.now in c.loop-at.i + 2 + get_or f (c.loop-at.i + 1) 0 ≤ length f = laying_within c.loop-at.invariant c.if-c-eq0.false c.if-c.false in within₁))

pub overflow_add-e : goal.overflow_add-e
overflow_add-e c = omega (arith, (let within₁ : let f = c.args.f.now in c.loop-at.i + 2 + get_or f (c.loop-at.i + 1) 0 ≤ length f = laying_within c.loop-at.invariant c.if-c-eq0.false c.if-c.false in within₁), c.wide.ensures.0)

pub slice_bounds-put_option-end : goal.slice_bounds-put_option-end
slice_bounds-put_option-end c = omega (arith, (let within₁ : let f = c.args.f.now in c.loop-at.i + 2 + get_or f (c.loop-at.i + 1) 0 ≤ length f = laying_within c.loop-at.invariant c.if-c-eq0.false c.if-c.false in within₁), c.wide.ensures.0)

pub put_option-o-requires : goal.put_option-o-requires
put_option-o-requires c = let y = c.loop-at.invariant in (
  omega (arith, option_room y c.if-c-eq0.false c.if-c.false c.wide.result c.wide.ensures.0 c.wide.ensures.1),
  omega (arith, part_length y c.if-c-eq0.false c.if-c.false c.wide.result c.wide.ensures.0 c.wide.ensures.1),
)

pub loop-at-smaller : goal.loop-at-smaller
loop-at-smaller c = omega (arith, (let within₁ : let f = c.args.f.now in c.loop-at.i + 2 + get_or f (c.loop-at.i + 1) 0 ≤ length f = laying_within c.loop-at.invariant c.if-c-eq0.false c.if-c.false in within₁))

pub loop-at-preserved : goal.loop-at-preserved
loop-at-preserved c = laying_on c.loop-at.invariant c.if-c-eq0.false c.if-c.false c.wide.result c.wide.ensures.0 c.wide.ensures.1
    c.put_option-o.auto.out c.put_option-o.ensures
