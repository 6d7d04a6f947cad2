-- `writer::fill_options` meets its contract. Assumes nothing.
use mathlib.Core.List.{List}
use Prim.Native.Nat.{◌≤◌}
use lib.ListN.{length}
use native.Mathlib.Omega.{arith}
use Rattle.options.specs.Message.{Rec}
use Rattle.writer.specs.Fill.{pieces_at}
use Rattle.writer.proofs.First.{alone, after, from52}
use Rattle.writer.proofs.Parts.{room_52}
use Rattle.writer.proofs.fill_options.Goals as goal

pub returns-then-plan-eq0 : goal.returns-then-plan-eq0
returns-then-plan-eq0 c = alone c.args.s.now c.args.single c.args.plan _ (pieces_at c.args.s.now 0) c.fill.new.field c.fill.result c.if-plan-eq0.true c.fill.ensures.0 c.fill.ensures.1

pub slice_bounds-fill-count : goal.slice_bounds-fill-count
slice_bounds-fill-count c = let still_four : 4 ≤ length c.put_option.new.room = omega (arith, (room_52 c.args.plan _ c.requires.0 c.if-plan-eq0.false), c.put_option.auto.room) in
    omega (arith, still_four)

pub slice_bounds-fill-start : goal.slice_bounds-fill-start
slice_bounds-fill-start c = let still_four : 4 ≤ length c.put_option.new.room = omega (arith, (room_52 c.args.plan _ c.requires.0 c.if-plan-eq0.false), c.put_option.auto.room) in
    omega (arith, still_four)

pub returns : goal.returns
returns c = let rs : List Rec = pieces_at c.args.s.now 0 in (
  after c.args.plan rs c.if-plan-eq0.false c.args.field.now c.put_option.new.room c.fill-2.new.field (room_52 c.args.plan _ c.requires.0 c.if-plan-eq0.false) c.put_option.ensures c.fill-2.ensures.0,
  from52 c.args.plan rs c.if-plan-eq0.false c.args.field.now c.put_option.new.room c.fill-2.new.field (room_52 c.args.plan _ c.requires.0 c.if-plan-eq0.false) c.put_option.ensures c.args.s.now c.args.single c.fill-2.result c.fill-2.ensures.1,
)
